-- What the bytes of a part make where each missing one reads as 0. Assumes nothing.
use Rattle.std.specs.Prelude.{◌≡◌, ℕ, ◌^◌, ◌<◌, ℤ, pos, negsuc, List, Some, nat_lt, if◌then◌else◌, slice_get, slice_index}
use Rattle.day.specs.declared.vehicle.Van.{Van}
use Rattle.sample_bytes.specs.Words.{number, value}

-- each of n entries is its byte's, and behind the bytes that of 0
abbrev pub IsColumn : {A : Type 0} → ℕ → (ℕ → A) → List ℕ → List A → Type 0
IsColumn n entry bytes column = (k : ℕ) → k < n → slice_get column k ≡ Some (entry (slice_index bytes k))

-- a whole number, -1 where it is too large
abbrev pub signed : ℕ → ℤ
signed n = if nat_lt n (2 ^ 31) then pos n else negsuc 0

-- an id, 0 where it is too large
abbrev pub short : ℕ → ℕ
short n = if nat_lt n (2 ^ 32) then n else 0

-- the van of eleven bytes
abbrev pub van_of : List (List ℕ) → List ℕ → Van
van_of words bytes = record {
  id = short (value words (slice_index bytes 0));
  depot = value words (slice_index bytes 1);
  capacity = signed (value words (slice_index bytes 2));
  cost_per_distance = number words (slice_index bytes 3);
  fixed_cost = number words (slice_index bytes 4);
  flags = slice_index bytes 5;
  max_distance = number words (slice_index bytes 6);
  max_duration = number words (slice_index bytes 7);
  earliest = number words (slice_index bytes 8);
  latest = number words (slice_index bytes 9);
  duration = number words (slice_index bytes 10);
}
