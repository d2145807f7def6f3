-- The shares of the data columns in a parity column. Assumes nothing.
use Rattle.std.proofs.Common.{◌≡◌, ℕ, ◌+◌, ◌*◌, ◌^◌, ◌<◌, ◌≤◌, sym, ap, ap₂, ◌∙◌, arith}
use Rattle.std.proofs.lemmas.Nat.{same_from_place}
use Rattle.code.specs.Codes.{Alike, Code, Column, File, sum}
use Rattle.code.proofs.Sums.{sum_more}
use Rattle.code.proofs.Images.{image_same}
use Rattle.code.proofs.Theory.{shift_below}
use Rattle.columns.specs.Parities.{share}
use Rattle.columns.specs.declared.parity.Parity.{Parity}
use Rattle.columns.specs.declared.parity.Parity.TheVariants.{First, Second}

-- a share follows from the rows of the column
pub share_same : {A : Type 0} (which : Parity) (c : Code A) (b : ℕ) (C E : Column c) → 1 ≤ c.size → ((a : ℕ) → a < 2 ^ c.size → C a ≡ E a) → (a : ℕ) → a < 2 ^ c.size → share which c b C a ≡ share which c b E a
share_same First c b C E h same a l = same a l
share_same Second c b C E h same a l = image_same c b C E (shift_below c b h) same a l

-- k parts of n symbols, and less than one more, are all N of them
pub all_parts : (k N n r : ℕ) → k * n + r ≡ N * n → r < n → k ≡ N
all_parts k N n r e l = (same_from_place k r N 0 n l (omega arith) (omega arith)).0

-- the sum of the shares of one column more, which the program adds as that of box b
pub shares_more : {A : Type 0} (which : Parity) (c : Code A) → 1 ≤ c.size → (f : File c) (C : Column c) (n n' b a : ℕ) → b ≡ n → n' ≡ n + 1 → Alike c C (f n) → a < 2 ^ c.size
    → (s : A) → s ≡ sum c.ring n (λ d. share which c d (f d) a) → c.ring.plus s (share which c b C a) ≡ sum c.ring n' (λ d. share which c d (f d) a)
shares_more which c some f C n n' b a box next same l s so_far =
    ap₂ c.ring.plus so_far (ap (λ k. share which c k C a) box ∙ share_same which c n C (f n) some same a l)
    ∙ sym (sum_more c.ring n (λ d. share which c d (f d) a))
    ∙ ap (λ k. sum c.ring k (λ d. share which c d (f d) a)) (sym next)
