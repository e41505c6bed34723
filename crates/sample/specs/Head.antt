-- The numbers of a place, and a place put together from them and its four arrays. Assumes nothing.
use Rattle.std.specs.Prelude.{ℕ, Bool, ◌≡◌, List, []}
use Rattle.std.proofs.Math.Path.{refl}
use Rattle.unit.specs.declared.Part.{Part}
use Rattle.sample.specs.declared.Place.{Place}
use Rattle.sample.specs.Place.{has, alike, agrees, oversize, missing}

pub record Head : Type 0 where
  pub used : Bool
  pub desk : ℕ
  pub time : ℕ
  pub total : ℕ
  pub sdur : ℕ
  pub told : Bool
  pub u : ℕ
  pub sidx : ℕ
  pub slen : ℕ
  pub mask : ℕ
  pub filled : ℕ

abbrev pub head_of : Place → Head
head_of p =
    record {
      used = p.used;
      desk = p.desk;
      time = p.time;
      total = p.total;
      sdur = p.sdur;
      told = p.told;
      u = p.u;
      sidx = p.sidx;
      slen = p.slen;
      mask = p.mask;
      filled = p.filled;
    }

abbrev pub whole : Head → (kinds starts lens bytes : List ℕ) → Place
whole h kinds starts lens bytes =
    record {
      used = h.used;
      desk = h.desk;
      time = h.time;
      total = h.total;
      sdur = h.sdur;
      told = h.told;
      u = h.u;
      sidx = h.sidx;
      slen = h.slen;
      mask = h.mask;
      filled = h.filled;
      kinds = kinds;
      starts = starts;
      lens = lens;
      bytes = bytes;
    }

-- where the arrays do not count
abbrev pub alone : Head → Place
alone h = whole h [] [] [] []

-- what the numbers alone decide
module _ (h : Head) (kinds starts lens bytes : List ℕ) where
  pub has-any : (THIS : ℕ) → has (alone h) THIS ≡ has (whole h kinds starts lens bytes) THIS
  unfolding has
  has-any THIS = refl

  pub agrees-any : (x : Part) → agrees (alone h) x ≡ agrees (whole h kinds starts lens bytes) x
  unfolding agrees alike
  agrees-any x = refl

  pub oversize-any : (x : Part) (n : ℕ) → oversize (alone h) x n ≡ oversize (whole h kinds starts lens bytes) x n
  unfolding oversize
  oversize-any x n = refl

  pub missing-any : missing (alone h) ≡ missing (whole h kinds starts lens bytes)
  unfolding missing
  missing-any = refl
