-- LEN is made from the low 16 bits of the data's length, so that no length overflows: its two bytes are the same.
-- Assumes nothing.
use Rattle.std.specs.Prelude.{ℕ, ◌+◌, ◌/◌, ◌%◌, ◌≡◌}
use Rattle.std.proofs.Common.{arith}

pub high : (x k : ℕ) → (x % 65536 + k) / 256 % 256 ≡ (x + k) / 256 % 256
high x k = omega arith

pub low : (x k : ℕ) → (x % 65536 + k) % 256 ≡ (x + k) % 256
low x k = omega arith
