-- The two parity columns in one definition. Assumes nothing.
use Rattle.std.specs.Prelude.{ℕ}
use Rattle.code.specs.Codes.{Code, Column, File, sum, image, data_boxes}
use Rattle.columns.specs.declared.parity.Parity.{Parity}
use Rattle.columns.specs.declared.parity.Parity.TheVariants.{First, Second}

-- what the column of the data box b adds to a parity column: itself or its image
abbrev pub share : {A : Type 0} → Parity → (c : Code A) → ℕ → Column c → Column c
share First c b C = C
share Second c b C = image c b C

-- so the first is parity1, and the second parity2
abbrev pub parity : {A : Type 0} → Parity → (c : Code A) → File c → Column c
parity which c f a = sum c.ring (data_boxes c) (λ b. share which c b (f b) a)
