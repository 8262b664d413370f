-- What an accepted input is: everything behind the front door may rely on it.
use Rattle.std.specs.Prelude.{◌≡◌, ℕ, ◌+◌, ◌*◌, ◌/◌, ◌≤◌, ◌<◌, true, List, ℤ, pos, length, get_or}
use Rattle.lists.specs.All.{AllOf}
use Rattle.names.specs.Fields.{name_allowed, name_or_absent, field_at, name_at}
use Rattle.layout.specs.Bounds.{max_polygons, max_ring, max_points, max_records, connection_room, cut_coordinates, cut_rings}
use Rattle.layout.specs.Job.{Layout, Job, CutJob}
use Rattle.layout.specs.Rings.{total, start_of}
use Rattle.geometry.specs.Coordinates.{coordinate}

-- the polygons: counts within bounds, rings that make up the points, coordinates that are allowed
pub record Polygons (l : Layout) : Type 0 where
  pub few : length l.lengths ≤ max_polygons
  pub few_points : length l.points ≤ 2 * max_points
  pub small : (i : ℕ) → get_or l.lengths i 0 ≤ max_ring
  pub whole : 2 * total l.lengths ≡ length l.points
  pub inside : (i : ℕ) → start_of l.lengths i + 2 * get_or l.lengths i 0 ≤ length l.points
  pub layered : length l.layers ≡ length l.lengths
  pub coordinates : AllOf coordinate l.points

-- the layer table: a name for each number, and no number twice
pub record LayerTable (numbers : List ℤ) (names : List ℕ) : Type 0 where
  pub few : length numbers ≤ max_records
  pub whole : length names ≡ length numbers * 32
  pub name : (k : ℕ) → k < length numbers → name_allowed (field_at names (k * 32)) ≡ true
  pub unique : (j k : ℕ) → j < k → k < length numbers → get_or numbers j (pos 0) ≡ get_or numbers k (pos 0) → ⊥

-- a table of pairs of names, records wholly there
pub record PairTable (table : List ℕ) : Type 0 where
  pub few : length table / 64 ≤ max_records
  pub whole : length table ≡ length table / 64 * 64
  pub first : (k : ℕ) → k < length table / 64 → name_allowed (field_at table (k * 64)) ≡ true
  pub second : (k : ℕ) → k < length table / 64 → name_allowed (field_at table (k * 64 + 32)) ≡ true

-- the conducting or the via map: pairs with no first name twice
pub record NameMap (table : List ℕ) : Type 0 where
  pub pairs : PairTable table
  pub unique : (j k : ℕ) → j < k → k < length table / 64 → name_at table (j * 64) ≡ name_at table (k * 64) → ⊥

-- the via stack
pub record StackTable (table : List ℕ) : Type 0 where
  pub few : length table / 96 ≤ max_records
  pub whole : length table ≡ length table / 96 * 96
  pub name : (k : ℕ) → k < length table / 96 → name_allowed (field_at table (k * 96)) ≡ true
  pub bottom : (k : ℕ) → k < length table / 96 → name_or_absent (field_at table (k * 96 + 32)) ≡ true
  pub top : (k : ℕ) → k < length table / 96 → name_or_absent (field_at table (k * 96 + 64)) ≡ true

-- what an accepted extraction takes
pub record Accepted (job : Job) : Type 0 where
  pub polygons : Polygons job.layout
  pub layers : LayerTable job.layout.layer_numbers job.layout.layer_names
  pub conducting : NameMap job.conducting
  pub via : NameMap job.via
  pub stack : StackTable job.stack
  pub ports : PairTable job.port_names
  pub port_points : length job.port_points ≡ length job.port_names / 64 * 2
  pub port_coordinates : AllOf coordinate job.port_points

-- the room that its lent lists have, by their lengths
pub record Room (job : Job) (a b c : ℕ) : Type 0 where
  pub components : length job.layout.lengths ≤ a
  pub connections : connection_room ≤ b
  pub landings : length job.port_names / 64 ≤ c

-- what an accepted cut, and accepted channel regions, take
pub record AcceptedCut (job : CutJob) : Type 0 where
  pub polygons : Polygons job.layout
  pub layers : LayerTable job.layout.layer_numbers job.layout.layer_names
  pub gate : name_allowed job.gate ≡ true
  pub active : name_allowed job.active ≡ true

-- the room that the cut's lent lists have, by their lengths
pub record CutRoom (a b c : ℕ) : Type 0 where
  pub coordinates : cut_coordinates ≤ a
  pub lengths : cut_rings ≤ b
  pub sources : cut_rings ≤ c
