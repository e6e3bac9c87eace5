-- Two lists of the lists, and the edits that change both: the table is cut where they meet, and each edit exchanges stretches of it. Assumes nothing.
use mathlib.Core.Path.{◌≡◌, refl, sym, ap, ◌∙◌}
use mathlib.Core.List.{List, [], ◌∷◌, ◌++◌, append_assoc}
use Prim.Native.Nat.{ℕ, zero, suc, ◌+◌, ◌≤◌, ◌<◌}
use native.Mathlib.Omega.{arith}
use lib.ListN.{length, get_or, set, take, drop, length-append, length-set, take-append-drop}
use lib.Seq.{slice, set_split, set-get_or, split_at, take-take, take-set-lt, drop-set-lt, length-take-le, set_comm}
use Rattle.edits.specs.Edits.{exchanged, outer_exchanged}
use Rattle.edits.proofs.Pieces.{exchanged_at, outer_exchanged_at}
use Rattle.lists.specs.Table.{flat, lengths_of, start_of}
use Rattle.lists.proofs.Tables.{length-flat}
use Rattle.list_changes.specs.Edits.{at, giver, receiver, relocated, joined, tails_exchanged}

-- ---- the table in five pieces

flat_append : (ls ms : List (List ℕ)) → flat (ls ++ ms) ≡ flat ls ++ flat ms
unfolding flat
flat_append [] ms = refl
flat_append (xs ∷ ls) ms = rw (flat_append ls ms, append_assoc)

lengths_take : (i : ℕ) (ls : List (List ℕ)) → lengths_of (take i ls) ≡ take i (lengths_of ls)
unfolding lengths_of
lengths_take zero ls = refl
lengths_take (suc i) [] = refl
lengths_take (suc i) (xs ∷ ls) = ap (λ z. length xs ∷ z) (lengths_take i ls)

pub start_flat : (ls : List (List ℕ)) (i : ℕ) → length (flat (take i ls)) ≡ start_of (lengths_of ls) i
unfolding start_of
start_flat ls i = rw (length-flat, lengths_take)

-- what lies before list i, between it and list j, and behind list j
unfoldable front : List (List ℕ) → ℕ → List ℕ
front ls i = flat (take i ls)

unfoldable between : List (List ℕ) → ℕ → ℕ → List ℕ
between ls i j = flat (slice (suc i) j ls)

unfoldable back : List (List ℕ) → ℕ → List ℕ
back ls j = flat (drop (suc j) ls)

module _ (ls : List (List ℕ)) (i j : ℕ) (before : i < j) (there : j < length ls) where
  -- up to the second list
  first_part : (X : List ℕ) → flat (take j (set ls i X)) ≡ front ls i ++ X ++ between ls i j
  unfolding flat front between
  first_part X =
      let short : i < length (take j ls) = rw (length-take-le j ls (omega arith)) before in
      rw (take-set-lt j ls i X before, set_split (take j ls) i X short, take-take i j ls (omega arith), flat_append, ← append_assoc)

  two_lists : (X Y : List ℕ) → flat (set (set ls i X) j Y) ≡ front ls i ++ X ++ between ls i j ++ Y ++ back ls j
  unfolding flat back
  two_lists X Y =
      let inside : j < length (set ls i X) = rw length-set there in
      rw (set_split (set ls i X) j Y inside, drop-set-lt (suc j) ls i X (omega arith), flat_append, first_part X, ← append_assoc)

  as_they_are : flat ls ≡ front ls i ++ at ls i ++ between ls i j ++ at ls j ++ back ls j
  as_they_are =
      let same : set (set ls i (at ls i)) j (at ls j) ≡ ls = rw (set-get_or ls i [], set-get_or ls j []) in
      rw same at (two_lists (at ls i) (at ls j))

  at_front : length (front ls i) ≡ start_of (lengths_of ls) i
  unfolding front
  at_front = start_flat ls i

  at_second : length (front ls i) + length (at ls i) + length (between ls i j) ≡ start_of (lengths_of ls) j
  at_second =
      let same : set ls i (at ls i) ≡ ls = set-get_or ls i [] in
      let part = rw same at (first_part (at ls i)) in
      simp length-append at (ap length (sym part)) ∙ start_flat ls j

-- ---- the edits in pieces

-- a visit v goes from the first list, A and B round it, between C and D of the second
later_pieces : (F A B G C D K : List ℕ) (v p q : ℕ) → length F + length A ≡ p → length F + length (A ++ v ∷ B) + length G + length C ≡ q
    → exchanged p (p + 1) q (F ++ (A ++ v ∷ B) ++ G ++ (C ++ D) ++ K) ≡ F ++ (A ++ B) ++ G ++ (C ++ v ∷ D) ++ K
later_pieces F A B G C D K v p q at_p at-q =
    let long = simp length-append at at-q in
    let first : length (F ++ A) ≡ p = simp length-append at_p in
    let end : length (F ++ A) + length (v ∷ []) + length (B ++ G ++ C) ≡ q = simp length-append (omega arith) in
    let moved = exchanged_at (F ++ A) (v ∷ []) (B ++ G ++ C) (D ++ K) p (p + 1) q first (omega arith) end in
    simp append_assoc (simp append_assoc at moved)

-- or from the second list to the first
earlier_pieces : (F A B G C D K : List ℕ) (v p q : ℕ) → length F + length C ≡ q → length F + length (C ++ D) + length G + length A ≡ p
    → exchanged q p (p + 1) (F ++ (C ++ D) ++ G ++ (A ++ v ∷ B) ++ K) ≡ F ++ (C ++ v ∷ D) ++ G ++ (A ++ B) ++ K
earlier_pieces F A B G C D K v p q at-q at_p =
    let long = simp length-append at at_p in
    let first : length (F ++ C) ≡ q = simp length-append at-q in
    let middle : length (F ++ C) + length (D ++ G ++ A) ≡ p = simp length-append (omega arith) in
    let moved = exchanged_at (F ++ C) (D ++ G ++ A) (v ∷ []) (B ++ K) q p (p + 1) first middle (omega arith) in
    simp append_assoc (simp append_assoc at moved)

-- the tails B and D change places
tail_pieces : (F A B G C D K : List ℕ) (a b c e : ℕ) → length F + length A ≡ a → length F + length (A ++ B) ≡ b
    → length F + length (A ++ B) + length G + length C ≡ c → length F + length (A ++ B) + length G + length (C ++ D) ≡ e
    → outer_exchanged a b c e (F ++ (A ++ B) ++ G ++ (C ++ D) ++ K) ≡ F ++ (A ++ D) ++ G ++ (C ++ B) ++ K
tail_pieces F A B G C D K a b c e at_a at_b at_c at-e =
    let one : length (F ++ A) ≡ a = simp length-append at_a in
    let two : length (F ++ A) + length B ≡ b = simp length-append (let l = simp length-append at at_b in omega arith) in
    let three : length (F ++ A) + length B + length (G ++ C) ≡ c = simp length-append (let l = simp length-append at at_c in omega arith) in
    let four : length (F ++ A) + length B + length (G ++ C) + length D ≡ e = simp length-append (let l = simp length-append at at-e in omega arith) in
    let made = outer_exchanged_at (F ++ A) B (G ++ C) D K a b c e one two three four in
    simp append_assoc (simp append_assoc at made)

-- ---- the edits of the table, for lists `one` before `other`

module _ (ls : List (List ℕ)) (one other : ℕ) (before : one < other) (there : other < length ls) where
  -- where `n` visits of the first list end, and of the second
  in_first : (n : ℕ) → n ≤ length (at ls one) → length (front ls one) + length (take n (at ls one)) ≡ start_of (lengths_of ls) one + n
  in_first n h = rw (length-take-le n (at ls one) h, at_front ls one other before there)

  in_second : (n : ℕ) → n ≤ length (at ls other)
      → length (front ls one) + length (at ls one) + length (between ls one other) + length (take n (at ls other)) ≡ start_of (lengths_of ls) other + n
  in_second n h = rw (length-take-le n (at ls other) h, at_second ls one other before there)

  -- the table, with the two lists in pieces
  in_pieces : (X Y : List ℕ) → at ls one ≡ X → at ls other ≡ Y → flat ls ≡ front ls one ++ X ++ between ls one other ++ Y ++ back ls other
  in_pieces X Y x y = as_they_are ls one other before there ∙ (λ t. front ls one ++ x t ++ between ls one other ++ y t ++ back ls other)

  pub moved_later : (position place : ℕ) → position < length (at ls one) → place ≤ length (at ls other)
      → exchanged (start_of (lengths_of ls) one + position) (start_of (lengths_of ls) one + position + 1) (start_of (lengths_of ls) other + place) (flat ls)
      ≡ flat (relocated ls one position other place)
  unfolding relocated
  moved_later position place h k =
      let X = at ls one in
      let Y = at ls other in
      let x : X ≡ take position X ++ get_or X position 0 ∷ drop (suc position) X = split_at X position 0 h in
      let y : take place Y ++ drop place Y ≡ Y = take-append-drop place Y in
      ap (exchanged _ _ _) (in_pieces _ _ x (sym y))
      ∙ later_pieces (front ls one) (take position X) (drop (suc position) X) (between ls one other) (take place Y) (drop place Y) (back ls other)
      (get_or X position 0) _ _ (in_first position (omega arith)) (rw (← x) (in_second place k))
      ∙ sym (two_lists ls one other before there (giver ls one position) (receiver ls one position other place))

  pub moved_earlier : (position place : ℕ) → position < length (at ls other) → place ≤ length (at ls one)
      → exchanged (start_of (lengths_of ls) one + place) (start_of (lengths_of ls) other + position) (start_of (lengths_of ls) other + position + 1) (flat ls)
      ≡ flat (relocated ls other position one place)
  unfolding relocated
  moved_earlier position place h k =
      let X = at ls one in
      let Y = at ls other in
      let x : take place X ++ drop place X ≡ X = take-append-drop place X in
      let y : Y ≡ take position Y ++ get_or Y position 0 ∷ drop (suc position) Y = split_at Y position 0 h in
      ap (exchanged _ _ _) (in_pieces _ _ (sym x) y)
      ∙ earlier_pieces (front ls one) (take position Y) (drop (suc position) Y) (between ls one other) (take place X) (drop place X) (back ls other)
      (get_or Y position 0) _ _ (in_first place k) (rw x (in_second position (omega arith)))
      ∙ sym (ap flat (set_comm ls other one (giver ls other position) (receiver ls other position one place) (λ e. omega arith))
      ∙ two_lists ls one other before there (receiver ls other position one place) (giver ls other position))

  pub tails_made : (cut1 cut2 : ℕ) → cut1 ≤ length (at ls one) → cut2 ≤ length (at ls other)
      → outer_exchanged (start_of (lengths_of ls) one + cut1) (start_of (lengths_of ls) one + length (at ls one))
      (start_of (lengths_of ls) other + cut2) (start_of (lengths_of ls) other + length (at ls other)) (flat ls)
      ≡ flat (tails_exchanged ls one other cut1 cut2)
  unfolding tails_exchanged
  tails_made cut1 cut2 h k =
      let X = at ls one in
      let Y = at ls other in
      let x : take cut1 X ++ drop cut1 X ≡ X = take-append-drop cut1 X in
      let y : take cut2 Y ++ drop cut2 Y ≡ Y = take-append-drop cut2 Y in
      let first_ends : length (front ls one) + length X ≡ start_of (lengths_of ls) one + length X = rw (at_front ls one other before there) in
      let second-ends : length (front ls one) + length X + length (between ls one other) + length Y ≡ start_of (lengths_of ls) other + length Y
      = rw (at_second ls one other before there) in
      ap (outer_exchanged _ _ _ _) (in_pieces _ _ (sym x) (sym y))
      ∙ tail_pieces (front ls one) (take cut1 X) (drop cut1 X) (between ls one other) (take cut2 Y) (drop cut2 Y) (back ls other) _ _ _ _
      (in_first cut1 h) (rw x first_ends) (rw x (in_second cut2 k)) (rw (x, y) second-ends)
      ∙ sym (two_lists ls one other before there (joined X cut1 Y cut2) (joined Y cut2 X cut1))
