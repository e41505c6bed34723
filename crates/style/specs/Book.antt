-- The style book: records one after the other, no header. Assumes nothing.
use Rattle.style.specs.Checked.{bad}
use Rattle.std.specs.Prelude.{ℕ, zero, suc, ◌+◌, ◌-◌, ◌/◌, List, [], ◌∷◌, Bool, length, Ok, Err}
use Rattle.laws.specs.Rows.{◌⇒◌⁏◌, ◌or◌, ◌and◌, ◌<?◌, ◌=?◌}
use Rattle.laws.specs.Region.{part}
use Rattle.octets.specs.Be.{u8_at}
use Rattle.paper.specs.Limits.{record_size, description_most, in_band, reserved}
use Rattle.paper.specs.Words.{number_of}
use Rattle.paper.specs.declared.Refusal.TheVariants.{Book}
use Rattle.style.specs.Checked.{Checked}
use Rattle.style.specs.Record.{record_at, index_of, length_of, description_of, filled}

-- ---- what is wrong with a record
-- the book ends before it does
abbrev pub cut_short : List ℕ → Bool
cut_short r = length r <? record_size

-- the index is not 128 to 254
abbrev pub bad_index : List ℕ → Bool
bad_index r = index_of r <? in_band or reserved - 1 <? index_of r

-- byte 1 is not zero
abbrev pub bad_zero : List ℕ → Bool
bad_zero r = 0 <? u8_at r 1

-- the length is not 1 to 256
abbrev pub bad_length : List ℕ → Bool
bad_length r = length_of r =? 0 or description_most <? length_of r

-- behind the description there is more than zeros
abbrev pub bad_rest : List ℕ → Bool
bad_rest r = filled (part (4 + length_of r) record_size r)

unfoldable pub broken : List ℕ → Bool
broken r = cut_short r or bad_index r or bad_zero r or bad_length r or bad_rest r

-- record i has no higher index than the one before it
unfoldable pub falling : List ℕ → ℕ → Bool
falling book i = 0 <? i and index_of (record_at book i) <? index_of (record_at book (i - 1)) + 1

unfoldable pub bad_record : List ℕ → ℕ → Bool
bad_record book i = broken (record_at book i) or falling book i

-- ---- the check
-- its answer: its number, 0 for a good book, and the value that goes with it, how many records there are or the first bad one's number
abbrev pub checked_number : Checked → ℕ
checked_number (Ok n) = 0
checked_number (Err b) = number_of b.why

abbrev pub checked_values : Checked → List ℕ
checked_values (Ok n) = n ∷ []
checked_values (Err b) = b.at ∷ []

-- how many records there are, with one that is cut short
abbrev pub count_of : List ℕ → ℕ
count_of book = (length book + (record_size - 1)) / record_size

-- n records from record i on: the first bad one is told
unfoldable pub check_from : List ℕ → (i n : ℕ) → Checked
check_from book i zero = Ok i
check_from book i (suc n) = bad_record book i ⇒ Err (bad Book i) ⁏ check_from book (suc i) n

abbrev pub check_of : List ℕ → Checked
check_of book = check_from book 0 (count_of book)

-- ---- looking an index up
-- among n records from record i on: the description of the first that has the index
unfoldable pub entry_from : List ℕ → (index i n : ℕ) → List ℕ
entry_from book index i zero = []
entry_from book index i (suc n) = index_of (record_at book i) =? index ⇒ description_of (record_at book i) ⁏ entry_from book index (suc i) n

-- nothing is shown from a book that breaks the rules
abbrev pub entry_of : List ℕ → ℕ → Checked → List ℕ
entry_of book index (Ok n) = entry_from book index 0 n
entry_of book index (Err b) = []
