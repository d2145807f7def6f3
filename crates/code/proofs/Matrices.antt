-- The blocks of the three kinds, and the halves. Assumes nothing.
use Rattle.std.proofs.Common.{◌≡◌, Bool, true, false, ◌≢◌, [], ◌∷◌, refl}
use Rattle.field.specs.Ring.{Ring}
use Rattle.code.specs.Blocks.{block, half}
use Rattle.code.specs.Recovery.{eigenvalue, recover}
use Rattle.code.specs.declared.Kind.{Kind}
use Rattle.code.specs.declared.Kind.TheVariants.{Lower, Upper, Sum}
use Rattle.field.proofs.Solver.{o, i, ◌⊕◌, ◌⊗◌, ◌⊖◌, ◌≐◌, ◌⟸◌, ◌·◌, ring, ring_by}
use Rattle.code.proofs.Operators.{Mat, mix, times}

module _ {A : Type 0} (R : Ring A) where
  infixl 60 ◌+◌
  infixl 60 ◌∸◌
  infixl 70 ◌*◌
  open R use {zero as nil, one, plus as ◌+◌, times as ◌*◌, negative as neg}

  abbrev ◌∸◌ : A → A → A
  a ∸ b = a + neg b

  -- as matrices
  abbrev pub mat : Kind → A → A → Mat A
  mat Lower p q false false = q
  mat Lower p q false true = q ∸ p
  mat Lower p q true false = nil
  mat Lower p q true true = p
  mat Upper p q false false = q
  mat Upper p q false true = nil
  mat Upper p q true false = p ∸ q
  mat Upper p q true true = p
  mat Sum p q false false = p
  mat Sum p q false true = nil
  mat Sum p q true false = nil
  mat Sum p q true true = q

  abbrev pub half_m : Kind → Mat A
  half_m Lower b false = one
  half_m Lower b true = nil
  half_m Upper b false = nil
  half_m Upper b true = one
  half_m Sum b false = one
  half_m Sum b true = one

  pub block_is : (u : Kind) (p q s t : A) (b : Bool) → block R u p q s t b ≡ mix R (mat u p q) b s t
  block_is Lower p q s t false = refl
  block_is Lower p q s t true = ring R (p ∷ q ∷ s ∷ t ∷ []) (λ p q s t. p ⊗ t ≐ o ⊗ s ⊕ p ⊗ t) refl
  block_is Upper p q s t false = ring R (p ∷ q ∷ s ∷ t ∷ []) (λ p q s t. q ⊗ s ≐ q ⊗ s ⊕ o ⊗ t) refl
  block_is Upper p q s t true = refl
  block_is Sum p q s t false = ring R (p ∷ q ∷ s ∷ t ∷ []) (λ p q s t. p ⊗ s ≐ p ⊗ s ⊕ o ⊗ t) refl
  block_is Sum p q s t true = ring R (p ∷ q ∷ s ∷ t ∷ []) (λ p q s t. q ⊗ t ≐ o ⊗ s ⊕ q ⊗ t) refl

  pub half_is : (u : Kind) (s t : A) (b : Bool) → half R u s t ≡ mix R (half_m u) b s t
  half_is Lower s t b = ring R (s ∷ t ∷ []) (λ s t. s ≐ i ⊗ s ⊕ o ⊗ t) refl
  half_is Upper s t b = ring R (s ∷ t ∷ []) (λ s t. t ≐ o ⊗ s ⊕ i ⊗ t) refl
  half_is Sum s t b = ring R (s ∷ t ∷ []) (λ s t. s ⊕ t ≐ i ⊗ s ⊕ i ⊗ t) refl

  -- the half of another kind's block is a multiple of the half
  pub half_block : (u v : Kind) → u ≢ v → (p q : A) (b c : Bool) → times R (half_m u) (mat v p q) b c ≡ eigenvalue R u v p q * half_m u b c
  half_block Lower Lower h p q b c = absurd (h refl)
  half_block Lower Upper h p q b false = ring R (p ∷ q ∷ []) (λ p q. i ⊗ q ⊕ o ⊗ (p ⊖ q) ≐ q ⊗ i) refl
  half_block Lower Upper h p q b true = ring R (p ∷ q ∷ []) (λ p q. i ⊗ o ⊕ o ⊗ p ≐ q ⊗ o) refl
  half_block Lower Sum h p q b false = ring R (p ∷ q ∷ []) (λ p q. i ⊗ p ⊕ o ⊗ o ≐ p ⊗ i) refl
  half_block Lower Sum h p q b true = ring R (p ∷ q ∷ []) (λ p q. i ⊗ o ⊕ o ⊗ q ≐ p ⊗ o) refl
  half_block Upper Lower h p q b false = ring R (p ∷ q ∷ []) (λ p q. o ⊗ q ⊕ i ⊗ o ≐ p ⊗ o) refl
  half_block Upper Lower h p q b true = ring R (p ∷ q ∷ []) (λ p q. o ⊗ (q ⊖ p) ⊕ i ⊗ p ≐ p ⊗ i) refl
  half_block Upper Upper h p q b c = absurd (h refl)
  half_block Upper Sum h p q b false = ring R (p ∷ q ∷ []) (λ p q. o ⊗ p ⊕ i ⊗ o ≐ q ⊗ o) refl
  half_block Upper Sum h p q b true = ring R (p ∷ q ∷ []) (λ p q. o ⊗ o ⊕ i ⊗ q ≐ q ⊗ i) refl
  half_block Sum Lower h p q b false = ring R (p ∷ q ∷ []) (λ p q. i ⊗ q ⊕ i ⊗ o ≐ q ⊗ i) refl
  half_block Sum Lower h p q b true = ring R (p ∷ q ∷ []) (λ p q. i ⊗ (q ⊖ p) ⊕ i ⊗ p ≐ q ⊗ i) refl
  half_block Sum Upper h p q b false = ring R (p ∷ q ∷ []) (λ p q. i ⊗ q ⊕ i ⊗ (p ⊖ q) ≐ p ⊗ i) refl
  half_block Sum Upper h p q b true = ring R (p ∷ q ∷ []) (λ p q. i ⊗ o ⊕ i ⊗ p ≐ p ⊗ i) refl
  half_block Sum Sum h p q b c = absurd (h refl)

  abbrev pub pair : A → A → Bool → A
  pair s t false = s
  pair s t true = t

  pub recover_is : (u : Kind) (p q d s t : A) (a b : Bool) → d * (q ∸ p) ≡ one
      → recover R u p q d (mix R (half_m u) a s t) (mix R (times R (half_m u) (mat u p q)) a s t) b ≡ pair s t b
  recover_is Lower p q d s t a false = ring_by R (p ∷ q ∷ d ∷ s ∷ t ∷ []) (λ p q d s t. (i ⊗ s ⊕ o ⊗ t) ≐ s ⟸ (o · d ⊗ (q ⊖ p) ≐ i) ∷ []) refl
  recover_is Lower p q d s t a true = ring_by R (p ∷ q ∷ d ∷ s ∷ t ∷ []) (λ p q d s t. d ⊗ (((i ⊗ q ⊕ o ⊗ o) ⊗ s ⊕ (i ⊗ (q ⊖ p) ⊕ o ⊗ p) ⊗ t) ⊖ q ⊗ (i ⊗ s ⊕ o ⊗ t)) ≐ t ⟸ (t · d ⊗ (q ⊖ p) ≐ i) ∷ []) refl
  recover_is Upper p q d s t a false = ring_by R (p ∷ q ∷ d ∷ s ∷ t ∷ []) (λ p q d s t. d ⊗ (p ⊗ (o ⊗ s ⊕ i ⊗ t) ⊖ ((o ⊗ q ⊕ i ⊗ (p ⊖ q)) ⊗ s ⊕ (o ⊗ o ⊕ i ⊗ p) ⊗ t)) ≐ s ⟸ (s · d ⊗ (q ⊖ p) ≐ i) ∷ []) refl
  recover_is Upper p q d s t a true = ring_by R (p ∷ q ∷ d ∷ s ∷ t ∷ []) (λ p q d s t. (o ⊗ s ⊕ i ⊗ t) ≐ t ⟸ (o · d ⊗ (q ⊖ p) ≐ i) ∷ []) refl
  recover_is Sum p q d s t a false = ring_by R (p ∷ q ∷ d ∷ s ∷ t ∷ []) (λ p q d s t. d ⊗ (q ⊗ (i ⊗ s ⊕ i ⊗ t) ⊖ ((i ⊗ p ⊕ i ⊗ o) ⊗ s ⊕ (i ⊗ o ⊕ i ⊗ q) ⊗ t)) ≐ s ⟸ (s · d ⊗ (q ⊖ p) ≐ i) ∷ []) refl
  recover_is Sum p q d s t a true = ring_by R (p ∷ q ∷ d ∷ s ∷ t ∷ []) (λ p q d s t. d ⊗ (((i ⊗ p ⊕ i ⊗ o) ⊗ s ⊕ (i ⊗ o ⊕ i ⊗ q) ⊗ t) ⊖ p ⊗ (i ⊗ s ⊕ i ⊗ t)) ≐ t ⟸ (t · d ⊗ (q ⊖ p) ≐ i) ∷ []) refl

  -- and any two numbers are the halves of a pair and of its block
  pub recover_half : (u : Kind) (p q d g h : A) (a : Bool) → d * (q ∸ p) ≡ one
      → mix R (half_m u) a (recover R u p q d g h false) (recover R u p q d g h true) ≡ g
  recover_half Lower p q d g h a = ring_by R (p ∷ q ∷ d ∷ g ∷ h ∷ []) (λ p q d g h. i ⊗ (g) ⊕ o ⊗ (d ⊗ (h ⊖ q ⊗ g)) ≐ g ⟸ (o · d ⊗ (q ⊖ p) ≐ i) ∷ []) refl
  recover_half Upper p q d g h a = ring_by R (p ∷ q ∷ d ∷ g ∷ h ∷ []) (λ p q d g h. o ⊗ (d ⊗ (p ⊗ g ⊖ h)) ⊕ i ⊗ (g) ≐ g ⟸ (o · d ⊗ (q ⊖ p) ≐ i) ∷ []) refl
  recover_half Sum p q d g h a = ring_by R (p ∷ q ∷ d ∷ g ∷ h ∷ []) (λ p q d g h. i ⊗ (d ⊗ (q ⊗ g ⊖ h)) ⊕ i ⊗ (d ⊗ (h ⊖ p ⊗ g)) ≐ g ⟸ (g · d ⊗ (q ⊖ p) ≐ i) ∷ []) refl

  pub recover_block : (u : Kind) (p q d g h : A) (a : Bool) → d * (q ∸ p) ≡ one
      → mix R (times R (half_m u) (mat u p q)) a (recover R u p q d g h false) (recover R u p q d g h true) ≡ h
  recover_block Lower p q d g h a = ring_by R (p ∷ q ∷ d ∷ g ∷ h ∷ []) (λ p q d g h. (i ⊗ q ⊕ o ⊗ o) ⊗ (g) ⊕ (i ⊗ (q ⊖ p) ⊕ o ⊗ p) ⊗ (d ⊗ (h ⊖ q ⊗ g)) ≐ h ⟸ (h ⊖ q ⊗ g · d ⊗ (q ⊖ p) ≐ i) ∷ []) refl
  recover_block Upper p q d g h a = ring_by R (p ∷ q ∷ d ∷ g ∷ h ∷ []) (λ p q d g h. (o ⊗ q ⊕ i ⊗ (p ⊖ q)) ⊗ (d ⊗ (p ⊗ g ⊖ h)) ⊕ (o ⊗ o ⊕ i ⊗ p) ⊗ (g) ≐ h ⟸ ((h ⊖ p ⊗ g) · d ⊗ (q ⊖ p) ≐ i) ∷ []) refl
  recover_block Sum p q d g h a = ring_by R (p ∷ q ∷ d ∷ g ∷ h ∷ []) (λ p q d g h. (i ⊗ p ⊕ i ⊗ o) ⊗ (d ⊗ (q ⊗ g ⊖ h)) ⊕ (i ⊗ o ⊕ i ⊗ q) ⊗ (d ⊗ (h ⊖ p ⊗ g)) ≐ h ⟸ (h · d ⊗ (q ⊖ p) ≐ i) ∷ []) refl
