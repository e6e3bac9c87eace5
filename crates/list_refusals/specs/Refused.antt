-- What is refused of the lists: document 01's table, 8 to 10, in its order. Assumes nothing.
use Rattle.std.specs.Prelude.{ℕ, List, Bool, not, ◌&&◌, eqb, leb, ltb, length, get_or}
use Rattle.tests.specs.All.{all_below, unless}
use Rattle.lists.specs.Table.{sum}

-- 01, refused 8: 'any list longer than 63'
unfoldable pub all_short : List ℕ → Bool
all_short lengths = all_below (λ r. leb (get_or lengths r 0) 63) (length lengths)

-- 01, refused 8: 'over 16 lists, lengths that don't add up to the visit table, any list longer than 63'
unfoldable pub shape_ok : List ℕ → List ℕ → Bool
shape_ok visits lengths = leb (length lengths) 16 && (eqb (sum lengths) (length visits) && all_short lengths)

-- 01, refused 9: 'a visit not below L, or a depot'; depots are the leading locations, so many as `depots`
unfoldable pub visit_ok : ℕ → ℕ → ℕ → Bool
visit_ok depots l v = leb depots v && ltb v l

-- so of every visit
unfoldable pub visits_ok : ℕ → ℕ → List ℕ → Bool
visits_ok depots l visits = all_below (λ k. visit_ok depots l (get_or visits k 0)) (length visits)

-- 01, refused 10: 'an office twice, in one list or two': one that stands at no earlier position of the table is new there
unfoldable pub new_at : List ℕ → ℕ → Bool
new_at visits j = all_below (λ i. not (eqb (get_or visits i 0) (get_or visits j 0))) j

-- so at every position
unfoldable pub distinct : List ℕ → Bool
distinct visits = all_below (λ j. new_at visits j) (length visits)

-- the first of 8 to 10 that holds of the lists, and 0 where none does: of an entry that asks for no list
unfoldable pub table_refusal : ℕ → ℕ → List ℕ → List ℕ → ℕ
table_refusal depots l visits lengths =
    unless (shape_ok visits lengths) 8 (unless (visits_ok depots l visits) 9 (unless (distinct visits) 10 0))

-- the same of an entry that asks for a list, by 8's last clause: 'a list asked for by a number (from 0) not below their count'
unfoldable pub lists_refusal : ℕ → ℕ → List ℕ → List ℕ → ℕ → ℕ
lists_refusal depots l visits lengths asked = unless (ltb asked (length lengths)) 8 (table_refusal depots l visits lengths)
