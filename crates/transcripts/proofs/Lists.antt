-- Lists by their items. Assumes nothing.
use Rattle.std.proofs.Common.{◌≡◌, ℕ, zero, suc, ◌<◌, List, ◌∷◌, ◌++◌, take, map, length, get_or, replicate, refl, ap, sym, subst, ◌∙◌, arith}
use Rattle.std.specs.List.{AllByRecursion}
use Rattle.std.proofs.Math.Seq.{take-append_seam}
use Rattle.std.proofs.lemmas.List.{get_or-map, length-map}
use Rattle.std.proofs.lemmas.List.Elements.{All-from_recursion, All-get_or}

pub twice_replicate : {A B C : Type 0} (g : B → C) (f : A → B) (n : ℕ) (x : A) → map g (map f (replicate n x)) ≡ replicate n (g (f x))
twice_replicate g f zero x = refl
twice_replicate g f (suc n) x = ap (λ ys. g (f x) ∷ ys) (twice_replicate g f n x)

-- what holds of each item of a list, by their values
pub each_at : {A B : Type 0} (P : B → Type 0) (f : A → B) (xs : List A) (i : ℕ) (x : A) → i < length xs → x ≡ get_or xs i x → AllByRecursion P (map f xs) → P (f x)
each_at P f xs i x inside is all =
    subst P (get_or-map f xs i x (f x) inside ∙ ap f (sym is))
    (All-get_or P (map f xs) i (f x) (omega (arith, inside, length-map xs f)) (All-from_recursion P (map f xs) all))

-- a vector whose items were lent to be written holds what was written
pub written : {A : Type 0} (n : ℕ) (xs ys zs : List A) → zs ≡ take n (xs ++ ys) → length xs ≡ n → zs ≡ xs
written n xs ys zs is e = is ∙ ap (λ k. take k (xs ++ ys)) (sym e) ∙ take-append_seam xs ys
