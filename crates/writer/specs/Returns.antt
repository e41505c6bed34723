-- One law for each way the writer returns, in the code's own values. Assumes nothing.
use Rattle.std.specs.Prelude.{ℕ, ◌≤◌, ◌<◌, ◌≡◌, true}
use mathlib.Core.List.{List}
use Rattle.std.proofs.Math.ListN.{length}
use Rattle.std.proofs.lemmas.List.Edits.{sets}
use Rattle.laws.specs.Rows.{◌⇒◌⁏◌, ◌=?◌}
use Rattle.paper.specs.Limits.{sample_most, size_least, size_most, durations, reserved}
use Rattle.unit.specs.declared.Unit.{Unit}
use Rattle.unit.specs.Again.{bytes_of}
use Rattle.text.specs.Unicode.{well_formed}
use Rattle.writer.specs.Write.{Caption, sample}

-- the first modifier part is TYPE 3, the others are TYPE 4
unfoldable pub block_type : ℕ → ℕ
block_type j = j =? 0 ⇒ 3 ⁏ 4

-- ---- what a sample that is not refused by 12 is
pub record Writable (c : Caption) (M room : ℕ) : Type 0 where
  pub coded : c.U < 2
  pub well : well_formed c.U c.string ≡ true
  pub index : c.SIDX < reserved
  pub lasting : c.SDUR < durations
  pub small : length (sample c) ≤ sample_most
  pub least : size_least ≤ M
  pub most : M ≤ size_most
  pub lent : M ≤ room

-- a unit and its data were laid over the front of `before`: `len` bytes, and `now` is the output
pub record PutDown (len : ℕ) (now before : List ℕ) (x : Unit) (d : List ℕ) : Type 0 where
  pub size : len ≡ length (bytes_of x d)
  pub out : now ≡ sets before 0 (bytes_of x d)
