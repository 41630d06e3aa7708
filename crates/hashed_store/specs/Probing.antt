-- Open addressing: a number is looked for from the bucket where its hash points, bucket by bucket, round the end, up
-- to the first free one. Assumes nothing.
use Rattle.std.specs.Prelude.{◌≡◌, ℕ, ◌*◌, ◌/◌, ◌%◌, ◌<◌, Bool, true, false, cond, List, [], ◌∷◌, ◌++◌, map, length, take, drop, ◌==◌, slice_index, slice_set}
use Rattle.hashed_store.specs.declared.entry.Entry.{Entry}
use Rattle.hashed_store.specs.declared.probe.Probe.{Probe}
use Rattle.hashed_store.specs.declared.probe.Probe.TheVariants.{Held, Free, Full}
use Rattle.hashed_store.specs.Index.{number}

-- where a probe for n starts among `size` buckets: nothing but that it is one of them is used of it
unfoldable pub start : ℕ → ℕ → ℕ
start n size = n * 2654435769 % 4294967296 * size / 4294967296

-- the places from h on, then those before h
abbrev pub turned : {X : Type 0} → ℕ → List X → List X
turned h xs = drop h xs ++ take h xs

-- a probe for n meets n before a free bucket
abbrev pub seen : ℕ → List ℕ → Bool
seen n [] = false
seen n (x ∷ rest) = cond (x == n) true (cond (x == 0) false (seen n rest))

-- n is one of the numbers
abbrev pub has : ℕ → List ℕ → Bool
has n [] = false
has n (x ∷ rest) = cond (x == n) true (has n rest)

-- what a probe for n from the bucket h on answers
abbrev pub Probed : ℕ → ℕ → List Entry → Probe → Type 0
Probed n h xs (Held j) = (j < length xs) × (slice_index (map number xs) j ≡ n)
Probed n h xs (Free j) =
    (j < length xs) × (slice_index (map number xs) j ≡ 0) × (seen n (turned h (map number xs)) ≡ false) × (seen n (turned h (slice_set (map number xs) j n)) ≡ true)
Probed n h xs Full = (seen n (turned h (map number xs)) ≡ false) × ((i : ℕ) → i < length (map number xs) → 0 < slice_index (map number xs) i)
