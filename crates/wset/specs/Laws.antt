-- The laws of views.
use Rattle.std.specs.Prelude.{◌≡◌, ◌↔◌, ℕ, ◌≤◌, List, [], ◌∷◌, ◌++◌, Some}
use Rattle.std.specs.List.{IsAmong}
use Rattle.std.specs.FinMap.{entries}
use Rattle.wvalues.specs.Names.{NameParts}
use Rattle.wset.specs.Views.{View, IsSettled, floor_of, known_in, join}
use Rattle.wentries.specs.Knowledge.{Live, Disputed, Retired, Floor}
use Rattle.wset.specs.Lending.{IsAbove, IsBehindOrigins, only_disputed}
use Rattle.wset.specs.Items.{Item, SegmentItem, RetirementItem, FloorItem, status_of, view_of, view_of_item}

-- in whatever order views are joined, and however often
pub record JoinLaws : Type 0 where
  pub associative : (u v w : View) → join (join u v) w ≡ join u (join v w)
  pub commutative : (v w : View) → join v w ≡ join w v
  pub idempotent : (v : View) → IsSettled v → join v v ≡ v
  -- and what they tell is settled
  pub settled : (v w : View) → IsSettled (join v w)

-- what two lists of items tell together is the join of what they tell
abbrev pub ViewOfUnion : Type 0
ViewOfUnion = (j k : List Item) → view_of (j ++ k) ≡ join (view_of j) (view_of k)

-- a view of items tells the status of each name, unknown names too
abbrev pub ViewHasStatus : Type 0
ViewHasStatus = (items : List Item) (n : NameParts) → known_in (view_of items) n ≡ status_of items n

-- it is settled
abbrev pub ViewsAreSettled : Type 0
ViewsAreSettled = (items : List Item) → IsSettled (view_of items)

-- the items of one list are all in the other
abbrev pub AreAmong : List Item → List Item → Type 0
AreAmong j k = (i : Item) → IsAmong j i → IsAmong k i

-- items that are the same, in whatever order and however often, have one view
abbrev pub SameItemsSameView : Type 0
SameItemsSameView = (j k : List Item) → AreAmong j k → AreAmong k j → view_of j ≡ view_of k

-- the floor of an origin is that of an item, and the greatest
pub record GreatestFloor (items : List Item) (o : List ℕ) (n : ℕ) : Type 0 where
  pub is_told : IsAmong items (FloorItem (record { origin = o; number = n }))
  pub is_greatest : (m : ℕ) → IsAmong items (FloorItem (record { origin = o; number = m })) → m ≤ n

-- a view of items has the greatest floor of each origin
abbrev pub ViewHasGreatestFloors : Type 0
ViewHasGreatestFloors = (items : List Item) (o : List ℕ) (n : ℕ) → (floor_of (view_of items) o ≡ Some n) ↔ GreatestFloor items o n

-- a name behind all that are known is added at the end
pub record LaterNames : Type 0 where
  pub take : (v : View) (n : NameParts) (bytes : List ℕ) → IsSettled v → IsAbove v n
      → entries (join v (view_of_item (SegmentItem n bytes))) ≡ entries v ++ (n, Live bytes) ∷ []
  pub retire : (v : View) (n : NameParts) → IsSettled v → IsAbove v n → entries (join v (view_of_item (RetirementItem n)))
      ≡ entries v ++ (n, Retired) ∷ []
  pub dispute : (v : View) (n : NameParts) → IsSettled v → IsAbove v n → entries (join v (only_disputed n))
      ≡ entries v ++ (n, Disputed) ∷ []
  -- a floor, where no name of its origin is known
  pub retire_to : (v : View) (n : NameParts) → IsSettled v → IsBehindOrigins v n
      → entries (join v (view_of_item (FloorItem n))) ≡ entries v ++ (n, Floor) ∷ []
