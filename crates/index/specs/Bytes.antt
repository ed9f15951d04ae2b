-- Reads and writes on the bytes of a store.
use Rattle.std.specs.Prelude.{ℕ, ◌+◌, ◌*◌, List, ◌++◌, length, take, drop, slice_index}

-- n bytes from `at` on
abbrev pub part : ℕ → ℕ → List ℕ → List ℕ
part at n bytes = take n (drop at bytes)

-- the bytes with `new` written over them from `at` on
abbrev pub put : ℕ → List ℕ → List ℕ → List ℕ
put at new bytes = take at bytes ++ (new ++ drop (length new) (drop at bytes))

-- the number of two bytes at `at`, big-endian
abbrev pub get16 : ℕ → List ℕ → ℕ
get16 at bytes = slice_index bytes at * 256 + slice_index bytes (at + 1)
