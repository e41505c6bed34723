-- What the writer answers: a payload's length and how many payloads there are, or why not. Assumes nothing.
use Rattle.std.specs.Prelude.{ℕ, ◌≡◌, Result, Ok, Err}
use Rattle.std.proofs.Common.{ap}
use Rattle.paper.specs.declared.Refusal.{Refusal}
use Rattle.writer.specs.declared.Payload.{Payload}

abbrev pub Written : Type 0
Written = Result Payload Refusal

abbrev pub packed : (len count : ℕ) → Written
packed len count = Ok (record { len = len; count = count })

-- ---- a payload that was written tells its two numbers
len_of : Written → ℕ
len_of (Ok p) = p.len
len_of (Err r) = 0

count_of : Written → ℕ
count_of (Ok p) = p.count
count_of (Err r) = 0

module _ {a b c d : ℕ} (e : packed a b ≡ packed c d) where
  pub packed-len : a ≡ c
  unfolding len_of
  packed-len = ap len_of e

  pub packed-count : b ≡ d
  unfolding count_of
  packed-count = ap count_of e
