-- What holds of the scheme of any outcome, refused or not.
-- In order: sets of attributes, the arrays, the scheme.
-- Assumes nothing.
use Rattle.std.specs.Prelude.{◌≡◌, ℕ, ◌^◌, ◌≤◌, ◌<◌, length, get_or}
use mathlib.Core.List.{Memᴰ}
use Rattle.sets.specs.Sets.{◌∈◌, ◌∉◌, ◌⊆◌, count, ATTRIBUTES, OBJECTS}
use Rattle.values.specs.Table.{TableRules}
use Rattle.scheme.specs.declared.Scheme.{Scheme}
use Rattle.scheme.specs.declared.MaximalRecords.{MaximalRecords}
use Rattle.scheme.specs.Dependencies.{Dependency}
use Rattle.scheme.specs.OfScheme.{dependencies_of, declared_of, removed_of}
use Rattle.scheme.specs.Statements.{SomeObjects}

-- s has an attribute, and its attributes are declared
pub record SomeAttributes (attributes s : ℕ) : Type 0 where
  pub filled : (k : ℕ) × (k ∈ s)
  pub inside : s ⊆ attributes

-- "An object has one to six attributes", all declared
pub record ObjectSet (attributes s : ℕ) : Type 0 where
  pub some : SomeAttributes attributes s
  pub six : count ATTRIBUTES s ≤ 6

-- the arrays are whole, and their counts are within "64 dependencies; 8 records of kind 5 and 8 of kind 6"
pub record MaximalArrays (m : MaximalRecords) : Type 0 where
  pub declared : length m.declared ≡ 8
  pub removed : length m.removed ≡ 8
  pub declarations : m.declarations ≤ 8
  pub removals : m.removals ≤ 8

pub record Arrays (s : Scheme) : Type 0 where
  pub kinds : length s.kinds ≡ ATTRIBUTES
  pub sets : length s.sets ≡ OBJECTS
  pub left : length s.left ≡ 64
  pub right : length s.right ≡ 64
  pub dependencies : s.dependencies ≤ 64
  pub maximal : MaximalArrays s.maximal

pub record WellFormed (s : Scheme) : Type 0 where
  pub arrays : Arrays s
  -- attributes are below ATTRIBUTES, objects below OBJECTS
  pub attributes_below : s.attributes < 2 ^ ATTRIBUTES
  pub objects_below : s.objects < 2 ^ OBJECTS
  -- value kinds are 0 to 3
  pub kinds_below : (a : ℕ) → get_or s.kinds a 0 < 4
  -- the comparison table keeps the rules of one
  pub rules : TableRules s.table.masks
  pub object_sets : (k : ℕ) → k ∈ s.objects → ObjectSet s.attributes (get_or s.sets k 0)
  pub other_sets : (k : ℕ) → k ∉ s.objects → get_or s.sets k 0 ≡ 0
  pub sides : (d : Dependency) → Memᴰ d (dependencies_of s)
      → SomeAttributes s.attributes d.left × SomeAttributes s.attributes d.right
  pub declared_sets : (M : ℕ) → Memᴰ M (declared_of s) → SomeObjects s.objects M
  pub removed_sets : (M : ℕ) → Memᴰ M (removed_of s) → SomeObjects s.objects M
