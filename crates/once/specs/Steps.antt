-- One call that counts: it gets what is due to it, and the desk has afterwards what the next stage says. Assumes nothing.
use Prim.Native.Nat.{ℕ, ◌<◌}
use Rattle.std.specs.Prelude.{◌≡◌, length, Some}
use Rattle.std.proofs.Math.Bool.{Bool, true, false}
use mathlib.Core.List.{List}
use Rattle.paper.specs.declared.Outcome.{Outcome}
use Rattle.unit.specs.declared.Whole as W
use Rattle.unit.specs.declared.Part as P
use Rattle.writer.specs.Write.{Caption, sample, long, count}
use Rattle.sample.specs.declared.Place.{Place}
use Rattle.desk.specs.Desk.{After, sample_of}
use Rattle.good.specs.View.{View, seen_after}
use Rattle.once.specs.Due.{Stage, gathering, finished, awaited, output}
use Rattle.once.specs.Keeping.{Gathered, Only}
use Rattle.once.specs.Others.{Fit, Timely}

-- the unit of a sample that is not cut
abbrev pub whole_of : Caption → W.Whole
whole_of c = record { u = c.U; sidx = c.SIDX; sdur = c.SDUR; tlen = length c.string; start = 9; len = length (sample c) }

-- ---- what the desk has of the sample in a stage, p being its place: the parts that came; of one that is not cut, nothing
pub record Stands (c : Caption) (M time : ℕ) (p : Place) (came : ℕ → Bool) : Type 0 where
  pub only : Only (count c M) came
  pub some : 0 < awaited (count c M) came
  pub cut : long c M ≡ true → (desk : ℕ) (x : P.Part) → x.total ≡ count c M → x.sdur ≡ c.SDUR → Gathered c M came (sample_of p desk time x)
  pub uncut : long c M ≡ false → (p.used ≡ false) × ((k : ℕ) → came k ≡ false)

abbrev pub Standing : Caption → (M time : ℕ) → Place → Stage → Type 0
Standing c M time p (gathering came) = Stands c M time p came
Standing c M time p (finished since) = Unit {0}

pub record Holds (c : Caption) (M time : ℕ) (v : View) (s : Stage) : Type 0 where
  pub fit : Fit v
  pub timely : Timely v time s
  pub standing : Standing c M time (v.at time) s

-- a call that left a, and is due x; s is the stage after it
pub record Serves (c : Caption) (M time : ℕ) (v : View) (out : List ℕ) (x : Outcome) (s : Stage) (a : After) : Type 0 where
  pub outcome : a.answer.outcome ≡ x
  pub left : a.own.out ≡ output c x out
  pub holds : Holds c M time (seen_after v (Some time) a.own) s
