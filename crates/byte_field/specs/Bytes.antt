-- The field of bytes: that of FIPS 197, section 4, with mark j the byte j. Assumes nothing.
use Rattle.std.specs.Prelude.{ℕ, ◌<◌, refl}
use Rattle.std.proofs.Common.{lit<}
use Rattle.field.specs.Below.{Below}
use Rattle.field.specs.Binary.{binary}
use Rattle.field.specs.Numbers.{counted, numbers, residue}
use Rattle.field.specs.Symbols.{Symbols}
use Rattle.byte_field.specs.Linear.{byte_product}
use Rattle.byte_field.specs.Product.{product}
use Rattle.byte_field.specs.declared.Byte.{Byte}

pub above_one : 1 < 256
above_one = lit< tt

abbrev pub byte_symbols : Symbols
byte_symbols = numbers 256 above_one (binary 8 above_one product byte_product) refl refl (counted 256 255 (lit< tt))

-- the byte of a number below 256
abbrev pub byte_of : ℕ → Byte
byte_of n = record { 0 = n }

abbrev pub byte_value : Byte → Below 256
byte_value b = residue 256 above_one b.0
