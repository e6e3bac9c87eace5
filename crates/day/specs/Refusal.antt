-- The tests of refusals 1 to 7, line by line as document 01's table has them: each says what is right. Their order is in day_refusals. Assumes nothing.
use Rattle.std.specs.Prelude.{ℕ, ◌+◌, ◌-◌, ◌*◌, List, Bool, false, not, ◌&&◌, ◌||◌, eqb, leb, ltb, ℤ, pos, negsuc, length, get_or, Float}
use Rattle.std.specs.Int.Signed.{le_z}
use Rattle.std.specs.Float.{nan, fin}
use Rattle.std.specs.Float.Ieee.{lt, le, eq}
use Rattle.numbers.specs.Operations.{zero64}
use Rattle.numbers.specs.Plain.{plain}
use Rattle.tests.specs.All.{all_below}
use Rattle.day.specs.Day.{Day, bit0, bit1, bit2}
use Rattle.day.specs.Customer.{num_depots}
use Rattle.day.specs.declared.vehicle.Van.{Van}

-- ---- 1 | day | L is 0 or over 64

-- L is 1 to 64
unfoldable pub size_ok : ℕ → Bool
size_ok l = ltb 0 l && leb l 64

-- ---- 2 | day | a table's length is wrong for L

-- the distances are L times L numbers, and so are the times, or there are none
unfoldable pub tables_ok : ℕ → List Float → List Float → Bool
tables_ok l distances times = eqb (length distances) (l * l) && (eqb (length times) 0 || eqb (length times) (l * l))

-- a column has one entry a location
abbrev pub column_ok : {A : Type 0} → ℕ → List A → Bool
column_ok l column = eqb (length column) l

-- so have all the columns, and the tables are right
unfoldable pub lengths_ok : Day → Bool
lengths_ok d =
    column_ok d.l d.flags
    && (column_ok d.l d.demand
    && (column_ok d.l d.service
    && (column_ok d.l d.ready
    && (column_ok d.l d.due
    && (column_ok d.l d.penalty
    && tables_ok d.l d.distances d.times)))))

-- ---- 3 | day | a distance or time isn't plain

-- every number of a table is plain
unfoldable pub all_plain : List Float → Bool
all_plain table = all_below (λ k. plain (get_or table k nan)) (length table)

-- ---- 4 | day | demand out of range; service, or a present penalty, not plain; flag bits 3 to 7 set; a depot flag after an unflagged location

-- 'Demands 0 to 1,000,000'
unfoldable pub demand_ok : ℤ → Bool
demand_ok x = le_z (pos 0) x && le_z x (pos 1000000)

-- a number is plain where its flag is on, and never read where it is off
unfoldable pub present_ok : Bool → Float → Bool
present_ok present x = not present || plain x

-- the penalty of location k
unfoldable pub penalty_ok : List ℕ → List Float → ℕ → Bool
penalty_ok flags penalty k = present_ok (bit2 (get_or flags k 0)) (get_or penalty k nan)

-- at location k: demand in range; service, and a present penalty, plain; flag bits 3 to 7 clear
unfoldable pub location_ok : List ℕ → List ℤ → List Float → List Float → ℕ → Bool
location_ok flags demand service penalty k =
    demand_ok (get_or demand k (pos 0))
    && (plain (get_or service k nan)
    && (penalty_ok flags penalty k
    && leb (get_or flags k 0) 7))

-- the same at every location
unfoldable pub locations_ok : ℕ → List ℕ → List ℤ → List Float → List Float → Bool
locations_ok l flags demand service penalty = all_below (location_ok flags demand service penalty) l

-- no depot flag stands right after an unflagged location
unfoldable pub lead_ok : List ℕ → ℕ → Bool
lead_ok flags k = bit0 (get_or flags k 0) || not (bit0 (get_or flags (k + 1) 0))

-- no depot flag after an unflagged location
unfoldable pub depots_lead : List ℕ → Bool
depots_lead flags = all_below (lead_ok flags) (length flags - 1)

-- ---- 5 | day | a present ready or due isn't plain, or ready is above due

-- two numbers are plain and the second isn't below the first
unfoldable pub span_ok : Float → Float → Bool
span_ok first last = plain first && (plain last && not (lt last first))

-- at location k, where its window is present
unfoldable pub window_ok : List ℕ → List Float → List Float → ℕ → Bool
window_ok flags ready due k = not (bit1 (get_or flags k 0)) || span_ok (get_or ready k nan) (get_or due k nan)

-- the same at every location
unfoldable pub windows_ok : ℕ → List ℕ → List Float → List Float → Bool
windows_ok l flags ready due = all_below (window_ok flags ready due) l

-- ---- 6 | van | its depot isn't a depot location

-- 'Depots are the leading flagged locations, at least one'
unfoldable pub is_depot : List ℕ → ℕ → Bool
is_depot flags k = ltb k (num_depots flags)

-- ---- 7 | van | capacity, a cost, a present limit or break number out of range (plain unless said); latest below earliest; flag bits 3 to 7 set

-- 'capacity 0 to 2,000,000,000'
unfoldable pub capacity_ok : ℤ → Bool
capacity_ok x = le_z (pos 0) x && le_z x (pos 2000000000)

-- 'cost per distance (plain, and 0 or at least 2^-20)'
unfoldable pub cost_ok : Float → Bool
cost_ok x = plain x && (eq x zero64 || le (fin false 1 (negsuc 19)) x)

-- the break's numbers, where it is present: plain, latest not below earliest
unfoldable pub break_ok : Bool → Float → Float → Float → Bool
break_ok present earliest latest duration = not present || (span_ok earliest latest && plain duration)

-- a present limit and break, and flag bits 3 to 7 clear
unfoldable pub limits_ok : Van → Bool
limits_ok v =
    present_ok (bit0 v.flags) v.max_distance
    && (present_ok (bit1 v.flags) v.max_duration
    && (break_ok (bit2 v.flags) v.earliest v.latest v.duration
    && leb v.flags 7))

-- the van's numbers
unfoldable pub van_ok : Van → Bool
van_ok v = capacity_ok v.capacity && (cost_ok v.cost_per_distance && (plain v.fixed_cost && limits_ok v))
