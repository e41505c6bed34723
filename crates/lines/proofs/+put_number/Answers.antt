-- `lines::put_number` meets its contract: the digits of the tenth, and the last one behind them. Assumes nothing.
use Rattle.std.proofs.Common.{arith}
use Rattle.lines.specs.Digits.{digits-one, digits_more}
use Rattle.lines.specs.Typed.{then}
use Rattle.lines.proofs.+put_number.Goals as goal

pub returns-then-n-lt10 : goal.returns-then-n-lt10
returns-then-n-lt10 t c = rw (digits-one c.args.n (omega arith)) c.put_digit.ensures

pub returns : goal.returns
returns t c = rw (digits_more c.args.n (omega arith)) (then _ _ _ _ _ _ _ _ c.put_number-next.ensures c.put_digit-2.ensures)
