-- A list in which a part has been overwritten: what stands inside and outside of that part. Assumes nothing.
use Rattle.std.proofs.Common.{◌≡◌, ℕ, ◌+◌, ◌<◌, ◌≤◌, List, map, length, slice_index_or, rules}
use Rattle.std.proofs.lemmas.List.{take-map, drop-map, map-append, places}
use borrow.Rule.Slice.PartMut.{put_mid}

pub mid_inside : {X : Type 0} (a k : ℕ) (xs ys : List X) (i : ℕ) (d : X) → a ≤ length xs → i < length ys → slice_index_or (put_mid a k xs ys) (a + i) d ≡ slice_index_or ys i d
mid_inside a k xs ys i d h l = search (rules, places)

pub mid_before : {X : Type 0} (a k : ℕ) (xs ys : List X) (i : ℕ) (d : X) → a ≤ length xs → i < a → slice_index_or (put_mid a k xs ys) i d ≡ slice_index_or xs i d
mid_before a k xs ys i d h l = search (rules, places)

pub mid_after : {X : Type 0} (a k : ℕ) (xs ys : List X) (i : ℕ) (d : X) → a ≤ length xs → length ys ≡ k → a + k ≤ i → slice_index_or (put_mid a k xs ys) i d ≡ slice_index_or xs i d
mid_after a k xs ys i d h e l = search (rules, places)

pub map_mid : {X Z : Type 0} (v : X → Z) (a k : ℕ) (xs ys : List X) → map v (put_mid a k xs ys) ≡ put_mid a k (map v xs) (map v ys)
map_mid v a k xs ys = search (map-append, take-map, drop-map)
