-- Numbers that several definitions name.
use Rattle.std.specs.Prelude.{ℕ}

-- The largest number of 32 bits: a denominator and a request's number are at most this.
abbrev pub max_u32 : ℕ
max_u32 = 4_294_967_295

-- The largest number of 64 bits: a sequence number and a sending's number are at most this.
abbrev pub max_u64 : ℕ
max_u64 = 18_446_744_073_709_551_615
