-- Lemmas on bytes as words, three to a word. Assumes nothing.
use Rattle.std.proofs.Common.{◌≡◌, ℕ, zero, suc, ◌+◌, ◌*◌, ◌/◌, ◌%◌, ◌≤◌, ◌<◌, List, [], ◌∷◌, length, slice_get, slice_set, Some, refl, ap, ◌∙◌, arith}
use Rattle.prime.specs.Words.{word_of}
use Rattle.image.specs.Triples.{number_at, with_number, word_at, words}

words_bounds : (bytes : List ℕ) → (3 * length (words bytes) ≤ length bytes) × (length bytes < 3 * length (words bytes) + 3)
words_bounds [] = (omega arith, omega arith)
words_bounds (x ∷ []) = (omega arith, omega arith)
words_bounds (x ∷ y ∷ []) = (omega arith, omega arith)
words_bounds (x ∷ y ∷ z ∷ rest) = let h = words_bounds rest in (omega arith, omega arith)

pub length_words : (bytes : List ℕ) → length (words bytes) ≡ length bytes / 3
length_words bytes = let h = words_bounds bytes in omega arith

pub word_read : (bytes : List ℕ) (i : ℕ) → i < length (words bytes) → slice_get (words bytes) i ≡ Some (word_at (number_at bytes i))
word_read [] i h = absurd (omega arith)
word_read (x ∷ []) i h = absurd (omega arith)
word_read (x ∷ y ∷ []) i h = absurd (omega arith)
word_read (x ∷ y ∷ z ∷ rest) zero h = refl
word_read (x ∷ y ∷ z ∷ rest) (suc i) h =
    let a : 3 * suc i ≡ suc (suc (suc (3 * i))) = omega arith in
    let b : 3 * suc i + 1 ≡ suc (suc (suc (3 * i + 1))) = omega arith in
    let c : 3 * suc i + 2 ≡ suc (suc (suc (3 * i + 2))) = omega arith in
    rw (b, c, a) (word_read rest i (omega arith))

-- three bytes are written
words_set : (bytes : List ℕ) (i p q r : ℕ) → i < length (words bytes) → words (slice_set (slice_set (slice_set bytes (3 * i) p) (3 * i + 1) q) (3 * i + 2) r) ≡ slice_set (words bytes) i (word_at (p * 65536 + q * 256 + r))
words_set [] i p q r h = absurd (omega arith)
words_set (x ∷ []) i p q r h = absurd (omega arith)
words_set (x ∷ y ∷ []) i p q r h = absurd (omega arith)
words_set (x ∷ y ∷ z ∷ rest) zero p q r h = refl
words_set (x ∷ y ∷ z ∷ rest) (suc i) p q r h =
    let a : 3 * suc i ≡ suc (suc (suc (3 * i))) = omega arith in
    let b : 3 * suc i + 1 ≡ suc (suc (suc (3 * i + 1))) = omega arith in
    let c : 3 * suc i + 2 ≡ suc (suc (suc (3 * i + 2))) = omega arith in
    rw (b, c, a) (ap (λ ws. word_at (x * 65536 + y * 256 + z) ∷ ws) (words_set rest i p q r (omega arith)))

pub word_written : (bytes : List ℕ) (i n : ℕ) → i < length (words bytes) → n < 65537 → words (with_number bytes i n) ≡ slice_set (words bytes) i (word_of n)
word_written bytes i n h low =
    let e : (n / 65536 % 256 * 65536 + n / 256 % 256 * 256 + n % 256) % 65537 ≡ n = omega arith in
    words_set bytes i (n / 65536 % 256) (n / 256 % 256) (n % 256) h ∙ ap (λ m. slice_set (words bytes) i (word_of m)) e
