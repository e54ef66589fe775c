-- What a query asks, and what its records ask: "Records" and "Answer rows" of the paper.
-- In order: items, comparisons, the condition, what a query asks, the attributes of a variable, what records ask, what the
-- code has of it, what one record adds.
-- Not here: which records a query may have (`Faults`), reading (`Reading`), when a condition is true (`connection`).
-- Assumes nothing.
use Rattle.std.specs.Prelude.{◌≡◌, true, false, ℕ, zero, suc, ◌+◌, eqb, length, get_or, set, replicate}
use mathlib.Core.List.{List, [], ◌∷◌, ◌++◌, Memᴰ}
use Rattle.sets.specs.Sets.{insert}
use Rattle.records.specs.declared.Record.{Record}
use Rattle.records.specs.declared.Record.TheVariants.{OfBook, OfQuery}
use Rattle.records.specs.declared.QueryRecord.TheVariants.{Item, CompareTwo, CompareConstant, End}
use Rattle.query.specs.declared.QueryItem.{QueryItem}
use Rattle.query.specs.declared.Comparison.{Comparison}
use Rattle.query.specs.declared.Asked.{Asked}

-- ---- items

-- a variable and an attribute
abbrev pub pair : ℕ → ℕ → QueryItem
pair v a = record { variable = v; attribute = a }

-- ---- comparisons

abbrev pub of_two : ℕ → ℕ → ℕ → ℕ → ℕ → Comparison
of_two v a operator v2 a2 = record {
  variable = v;
  attribute = a;
  operator = operator;
  constant = false;
  variable2 = v2;
  attribute2 = a2;
  cell = 0;
}

abbrev pub with_cell : ℕ → ℕ → ℕ → ℕ → Comparison
with_cell v a operator cell = record {
  variable = v;
  attribute = a;
  operator = operator;
  constant = true;
  variable2 = 0;
  attribute2 = 0;
  cell = cell;
}

-- the value kind on the right of a comparison, where attributes have these: "a constant has its attribute's kind"
abbrev pub right_kind : List ℕ → Comparison → ℕ
right_kind kinds c = elim c.constant [ true ↦ get_or kinds c.attribute 0 | false ↦ get_or kinds c.attribute2 0 ]

-- ---- the condition: a tree of comparisons, true or false of the cells that are chosen for the attributes

pub data Condition : Type 0 where
  -- no comparison: true
  always : Condition
  compares : Comparison → Condition
  both : Condition → Condition → Condition

-- its comparisons, from the left
unfoldable pub comparisons_in : Condition → List Comparison
comparisons_in always = []
comparisons_in (compares c) = c ∷ []
comparisons_in (both c d) = comparisons_in c ++ comparisons_in d

-- all of some comparisons
unfoldable pub conjunction : List Comparison → Condition
conjunction [] = always
conjunction (c ∷ cs) = both (compares c) (conjunction cs)

-- ---- what a query asks: the items to retrieve, the condition, and the attributes named, each with its variable

pub record Asking : Type 0 where
  pub items : List QueryItem
  pub condition : Condition
  pub names : List QueryItem

-- attribute a is named with variable v
abbrev pub Named : Asking → ℕ → ℕ → Type 0
Named q v a = Memᴰ (pair v a) q.names

-- the attributes of the items and of the comparisons are named
pub record NamesWhole (q : Asking) : Type 0 where
  pub items : (i : QueryItem) → Memᴰ i q.items → Named q i.variable i.attribute
  pub lefts : (c : Comparison) → Memᴰ c (comparisons_in q.condition) → Named q c.variable c.attribute
  pub rights : (c : Comparison) → Memᴰ c (comparisons_in q.condition) → c.constant ≡ false
      → Named q c.variable2 c.attribute2

-- ---- the attributes of a variable

-- X with the attributes of some names, those of variable v
unfoldable pub naming : ℕ → ℕ → List QueryItem → ℕ
naming v X [] = X
naming v X (n ∷ ns) = naming v (elim (eqb n.variable v) [ true ↦ insert X n.attribute | false ↦ X ]) ns

-- "For each variable named, X is every attribute named with it."
unfoldable pub attributes_named : Asking → ℕ → ℕ
attributes_named q v = naming v 0 q.names

-- ---- what records ask

-- "item to retrieve": what a record retrieves
unfoldable pub item_of : Record → List QueryItem
item_of (OfBook r) = []
item_of (OfQuery (Item v a)) = pair v a ∷ []
item_of (OfQuery (CompareTwo v a operator v2 a2)) = []
item_of (OfQuery (CompareConstant v a operator cell)) = []
item_of (OfQuery End) = []

-- the items of records, in their order
unfoldable pub items_of : List Record → List QueryItem
items_of [] = []
items_of (r ∷ rs) = item_of r ++ items_of rs

-- "comparison of two", "comparison with a constant": what a record compares
unfoldable pub comparison_of : Record → List Comparison
comparison_of (OfBook r) = []
comparison_of (OfQuery (Item v a)) = []
comparison_of (OfQuery (CompareTwo v a operator v2 a2)) = of_two v a operator v2 a2 ∷ []
comparison_of (OfQuery (CompareConstant v a operator cell)) = with_cell v a operator cell ∷ []
comparison_of (OfQuery End) = []

-- the comparisons of records, of both kinds in one list, in their order
unfoldable pub comparisons_of : List Record → List Comparison
comparisons_of [] = []
comparisons_of (r ∷ rs) = comparison_of r ++ comparisons_of rs

-- the attributes that a record names, each with its variable
unfoldable pub name_of : Record → List QueryItem
name_of (OfBook r) = []
name_of (OfQuery (Item v a)) = pair v a ∷ []
name_of (OfQuery (CompareTwo v a operator v2 a2)) = pair v a ∷ pair v2 a2 ∷ []
name_of (OfQuery (CompareConstant v a operator cell)) = pair v a ∷ []
name_of (OfQuery End) = []

unfoldable pub names_of : List Record → List QueryItem
names_of [] = []
names_of (r ∷ rs) = name_of r ++ names_of rs

-- a condition of records: "all comparisons true"
abbrev pub asks : List Record → Asking
asks rs = record { items = items_of rs; condition = conjunction (comparisons_of rs); names = names_of rs }

-- ---- what the code has of it

-- a list of at most n in an array of n, with d behind it
unfoldable pub filled : {A : Type 0} → A → ℕ → List A → List A
filled d zero l = []
filled d (suc n) [] = d ∷ filled d n []
filled d (suc n) (x ∷ l) = x ∷ filled d n l

-- "items 1 to 8; comparisons 0 to 16 in all; variables 0 to 3"
unfoldable pub asked_of : Asking → Asked
asked_of q = record {
  items = filled (pair 0 0) 8 q.items;
  retrieved = length q.items;
  comparisons = filled (of_two 0 0 0 0 0) 16 (comparisons_in q.condition);
  compared = length (comparisons_in q.condition);
  attributes = attributes_named q 0 ∷ attributes_named q 1 ∷ attributes_named q 2 ∷ attributes_named q 3 ∷ [];
}

-- ---- what one record adds, as the code adds it

unfoldable pub nothing_asked : Asked
nothing_asked = record {
  items = replicate 8 (pair 0 0);
  retrieved = 0;
  comparisons = replicate 16 (of_two 0 0 0 0 0);
  compared = 0;
  attributes = replicate 4 0;
}

-- an attribute named with a variable
unfoldable pub with_name : Asked → ℕ → ℕ → Asked
with_name q v a = record {
  items = q.items;
  retrieved = q.retrieved;
  comparisons = q.comparisons;
  compared = q.compared;
  attributes = set q.attributes v (insert (get_or q.attributes v 0) a);
}

unfoldable pub with_item : Asked → QueryItem → Asked
with_item q i = record {
  items = set q.items q.retrieved i;
  retrieved = q.retrieved + 1;
  comparisons = q.comparisons;
  compared = q.compared;
  attributes = q.attributes;
}

unfoldable pub with_comparison : Asked → Comparison → Asked
with_comparison q c = record {
  items = q.items;
  retrieved = q.retrieved;
  comparisons = set q.comparisons q.compared c;
  compared = q.compared + 1;
  attributes = q.attributes;
}

unfoldable pub with_record : Asked → Record → Asked
with_record q (OfBook r) = q
with_record q (OfQuery (Item v a)) = with_name (with_item q (pair v a)) v a
with_record q (OfQuery (CompareTwo v a operator v2 a2)) =
    with_name (with_name (with_comparison q (of_two v a operator v2 a2)) v a) v2 a2
with_record q (OfQuery (CompareConstant v a operator cell)) =
    with_name (with_comparison q (with_cell v a operator cell)) v a
with_record q (OfQuery End) = q
