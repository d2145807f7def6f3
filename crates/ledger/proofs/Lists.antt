-- Lists made from functions. Assumes nothing.
use Rattle.std.proofs.Common.{◌≡◌, ℕ, zero, suc, ◌+◌, ◌*◌, ◌/◌, ◌%◌, ◌<◌, List, length, map, get_or, ⊎_elim, inl, inr, sym, ap, ◌∙◌, length-append, arith}
use Rattle.std.specs.List.{flat_map, range_with_len}
use Rattle.std.proofs.lemmas.List.{ext_get_or, get_or_append_left, get_or-append_right, get_or_past, get_or-replicate, length-map, length-replicate, map-id}
use Rattle.std.proofs.lemmas.Nat.{div-add-mod', div_below, mod_below}
use Rattle.std.proofs.lemmas.Bool.{cases_eq, cases_lt}
use Rattle.std.proofs.lemmas.List.FromFn.{get_or-map-range_with_len, length-map-range_with_len}
use Rattle.field.specs.Symbols.{Symbols}
use Rattle.code.specs.Contents.{Holds, at, parts}
use Rattle.ledger.specs.Ledgers.{listed, zeros}

module _ {X : Type 0} where
  pub length-listed : (n : ℕ) (f : ℕ → X) → length (listed n f) ≡ n
  length-listed n f = length-map-range_with_len f 0 n

  pub get_or-listed : (n : ℕ) (f : ℕ → X) (i : ℕ) (d : X) → i < n → get_or (listed n f) i d ≡ f i
  get_or-listed n f i d h = get_or-map-range_with_len f 0 n i i d h (omega arith)

  -- lists of n one after another, the first for a
  module _ (n : ℕ) (f : ℕ → ℕ → X) where
    abbrev pub joined : ℕ → ℕ → List X
    joined a k = flat_map (λ h. listed n (f h)) (range_with_len a k)

    pub length-joined : (a k : ℕ) → length (joined a k) ≡ k * n
    length-joined a zero = omega arith
    length-joined a (suc k) =
        length-append (listed n (f a)) (joined (a + 1) k) ∙ omega (arith, length-listed n (f a), length-joined (a + 1) k)

    pub get_or-joined : (k a h j : ℕ) (d : X) → h < k → j < n → get_or (joined a k) (h * n + j) d ≡ f (a + h) j
    get_or-joined zero a h j d l b = absurd (omega arith)
    get_or-joined (suc k) a zero j d l b =
        ap (λ i. get_or (joined a (suc k)) i d) (omega arith)
        ∙ get_or_append_left (listed n (f a)) (joined (a + 1) k) d j (omega (arith, length-listed n (f a)))
        ∙ get_or-listed n (f a) j d b ∙ ap (λ i. f i j) (omega arith)
    get_or-joined (suc k) a (suc h) j d l b =
        get_or-append_right (listed n (f a)) (joined (a + 1) k) n (suc h * n + j) d (length-listed n (f a)) (omega arith)
        ∙ ap (λ i. get_or (joined (a + 1) k) i d) (omega arith)
        ∙ get_or-joined k (a + 1) h j d (omega arith) b ∙ ap (λ i. f i j) (omega arith)

module _ (Y : Symbols) where
  -- what is in a place of a list of symbols
  pub at_is : (xs : List Y.Symbol) (i : ℕ) → at Y (λ x. x) xs i ≡ get_or xs i Y.ring.zero
  at_is xs i = ap (λ ys. get_or ys i Y.ring.zero) (map-id xs)

  -- and of a list of zeros, whatever the place
  pub zero_at : (n i : ℕ) → at Y (λ x. x) (zeros Y n) i ≡ Y.ring.zero
  zero_at n i =
      at_is (zeros Y n) i
      ∙ ⊎_elim (λ l. get_or-replicate n i Y.ring.zero Y.ring.zero l)
      (λ l. get_or_past (zeros Y n) i Y.ring.zero (omega (arith, length-replicate n Y.ring.zero))) (cases_lt i n)

  -- what a program's buffers hold, as lists of symbols
  module _ {S : Type 0} (value : S → Y.Symbol) where
    pub listed_held : (n : ℕ) (f : ℕ → Y.Symbol) (xs : List S) → length xs ≡ n → Holds Y value n xs f → map value xs ≡ listed n f
    listed_held n f xs e h =
        ext_get_or Y.ring.zero (map value xs) (listed n f) (length-map xs value ∙ e ∙ sym (length-listed n f))
        (λ i l. let b : i < n = omega (arith, length-map xs value) in h i b ∙ sym (get_or-listed n f i Y.ring.zero b))

    pub joined_held : (n k : ℕ) (f : ℕ → ℕ → Y.Symbol) (xs : List S) → length xs ≡ k * n → ((h j : ℕ) → h < k → j < n → parts Y value n xs h j ≡ f h j) → map value xs ≡ joined n f 0 k
    joined_held n k f xs e h =
        ext_get_or Y.ring.zero (map value xs) (joined n f 0 k) (length-map xs value ∙ e ∙ sym (length-joined n f 0 k))
        (λ i l.
        let b : i < k * n = omega (arith, length-map xs value) in
        let some : 0 < n = elim (cases_eq n 0) [ inl z ↦ absurd (let none : k * n ≡ k * 0 = ap (λ j. k * j) z in omega arith) | inr nz ↦ omega arith ] in
        let part = div_below i n k some b in
        let in_part = mod_below i n some in
        let place : i / n * n + i % n ≡ i = div-add-mod' i n in
        ap (λ j. get_or (map value xs) j Y.ring.zero) (sym place) ∙ h (i / n) (i % n) part in_part
        ∙ sym (ap (λ j. get_or (joined n f 0 k) j Y.ring.zero) (sym place) ∙ get_or-joined n f k 0 (i / n) (i % n) Y.ring.zero part in_part ∙ ap (λ j. f j (i % n)) (omega arith)))
