-- A list that is built by appending, from nothing on: a buffer's first visits are the concatenation of the parts. Assumes nothing.
use mathlib.Core.Path.{◌≡◌, refl, sym, ap, ◌∙◌}
use mathlib.Core.List.{List, [], ◌∷◌, ◌++◌, reverse, append_assoc, reverse-append, reverse-cons}
use Prim.Native.Nat.{ℕ, suc, ◌+◌, ◌-◌, ◌<◌, ◌≤◌}
use native.Mathlib.Numerals.{add-one}
use native.Mathlib.Omega.{arith}
use lib.ListN.{length, take, drop, get_or, set, length-drop, length-reverse, length-set}
use lib.Seq.{slice, length-slice, paste, paste-suc, take_all, split_at, get_or_at}
use borrow.Rule.Slice.PartMut.{put_mid, same_len_mid, mid_len}
use Rattle.std.proofs.lemmas.Slice.{take-put_mid, drop-put_mid}
use Rattle.edits.specs.Edits.{Appended}
use Rattle.edits.proofs.Cuts.{lent}

-- what was in use, and then the part; a chain of appends starts at 0, where `take 0 before` is `[]`
pub appended_on : {count : ℕ} {part before : List ℕ} {end : ℕ} {after held : List ℕ}
    → Appended count part before end after → take count before ≡ held → take end after ≡ held ++ part
appended_on {part = part} new old = new.filled ∙ ap (λ (l : List ℕ). l ++ part) old

-- a whole list overwritten: a part as long as the buffer, appended to nothing
pub appended_whole : {part before : List ℕ} {end : ℕ} {after : List ℕ} → Appended 0 part before end after → length part ≡ length before → after ≡ part
appended_whole {end = end} {after = after} new all = sym (take_all end after (omega (arith, new.ends, new.same_length))) ∙ new.filled

-- a part copied behind the first `count`
pub appended_part : (count : ℕ) (part before : List ℕ) → count + length part ≤ length before
    → Appended count part before (count + length part) (put_mid count (count + length part - count) before part)
appended_part count part before room =
    let long : length part ≡ count + length part - count = omega arith in
    let lent_long : length (take (count + length part - count) (drop count before)) ≡ count + length part - count =
    mid_len count (count + length part) before room in
    record {
      ends = refl;
      same_length = same_len_mid count (count + length part - count) before part (long ∙ sym lent_long);
      filled = take-put_mid count _ before part (count + length part) refl (omega arith);
      behind = drop-put_mid count _ before part (count + length part) (omega arith) (omega arith) long;
    }

-- a loop that has stored i visits of the part behind the first `count`
pub record Storing (count : ℕ) (part before : List ℕ) (i : ℕ) (now : List ℕ) : Type 0 where
  pub stored : now ≡ paste before count part i
  pub within : i ≤ length part
  pub same_length : length now ≡ length before

pub storing_more : (count : ℕ) (part before : List ℕ) (i : ℕ) (now : List ℕ) (visit : ℕ) → count + length part ≤ length before
    → i < length part → visit ≡ get_or part i 0 → Storing count part before i now → Storing count part before (i + 1) (set now (count + i) visit)
storing_more count part before i now visit room h at s = record {
  stored = rw (add-one i, s.stored, at) (paste-suc before count part i 0 (omega arith) h);
  within = omega arith;
  same_length = length-set now (count + i) visit ∙ s.same_length;
}

-- what stands at place i of a reversed list
pub get_or-reverse : (xs : List ℕ) (i : ℕ) → i < length xs → get_or xs (length xs - 1 - i) 0 ≡ get_or (reverse xs) i 0
get_or-reverse xs i h =
    let k : ℕ = length xs - 1 - i in
    let visit : ℕ = get_or xs k 0 in
    let cut : xs ≡ take k xs ++ visit ∷ drop (suc k) xs = split_at xs k 0 (omega arith) in
    let back : reverse xs ≡ reverse (drop (suc k) xs) ++ visit ∷ reverse (take k xs) =
    ap reverse cut ∙ reverse-append (take k xs) (visit ∷ drop (suc k) xs)
    ∙ ap (λ (l : List ℕ). l ++ reverse (take k xs)) (reverse-cons visit (drop (suc k) xs))
    ∙ append_assoc (reverse (drop (suc k) xs)) (visit ∷ []) (reverse (take k xs)) in
    let long : length (reverse (drop (suc k) xs)) ≡ i = rw (length-reverse, length-drop) (omega arith) in
    sym (ap (λ (l : List ℕ). get_or l i 0) back ∙ get_or_at (reverse (drop (suc k) xs)) visit (reverse (take k xs)) 0 i long)

-- a part lent from a list is the list's stretch, as it is or turned round: g keeps the length
pub stretch : (g : List ℕ → List ℕ) → ((l : List ℕ) → length (g l) ≡ length l) → (xs : List ℕ) (from to : ℕ) → from ≤ to → to ≤ length xs
    → {count : ℕ} {before : List ℕ} {end : ℕ} {after : List ℕ} → Appended count (g (take (to - from) (drop from xs))) before end after
    → (end ≡ count + (to - from)) × Appended count (g (slice from to xs)) before end after
stretch g keeps xs from to h k new =
    let here = rw (lent from to xs h) at new in
    (omega (arith, here.ends, keeps (slice from to xs), length-slice from to xs k), here)
