-- Answer 5: which records are allowed. Each is wholly there, with its names allowed; a key of the layer, conducting or via map is new.
use Rattle.std.specs.Prelude.{Option, Some, None, ℕ, ◌+◌, ◌*◌, ◌/◌, Bool, false, not, ◌&&◌, List, ltb, eqb, ℤ, pos, length, get_or}
use Rattle.lists.specs.Scans.{first_in}
use Rattle.names.specs.Fields.{name_allowed, name_or_absent, field_at}
use Rattle.names.specs.Tables.{record_count, look_up, layer_record}
use Rattle.layout.specs.Counts.{layer_count, port_count}

-- a search that found record k
abbrev pub found_at : ℕ → Option ℕ → Bool
found_at k None = false
found_at k (Some j) = eqb j k

-- layer table: number, logical
unfoldable pub layer_named : List ℤ → List ℕ → ℕ → Bool
layer_named numbers names k = ltb k (length numbers) && name_allowed (field_at names (k * 32))

-- the first record with its number is itself: of twins the later is not allowed
unfoldable pub layer_allowed : List ℤ → List ℕ → ℕ → Bool
layer_allowed numbers names k = layer_named numbers names k && found_at k (layer_record numbers (get_or numbers k (pos 0)))

-- two names
unfoldable pub pair_named : List ℕ → ℕ → Bool
pair_named table k = name_allowed (field_at table (k * 64)) && name_allowed (field_at table (k * 64 + 32))

-- conducting and via map: logical, physical; the first record with its logical name is itself
unfoldable pub pair_allowed : List ℕ → ℕ → Bool
pair_allowed table k = pair_named table k && found_at k (look_up table 64 table (k * 64))

-- via stack: name, bottom or absent, top or absent
unfoldable pub stack_allowed : List ℕ → ℕ → Bool
stack_allowed table k =
    name_allowed (field_at table (k * 96)) && (name_or_absent (field_at table (k * 96 + 32)) && name_or_absent (field_at table (k * 96 + 64)))

-- ports: name, logical layer, and a point of two coordinates
unfoldable pub port_allowed : List ℕ → ℕ → ℕ → Bool
port_allowed names coordinates k = pair_named names k && ltb k (coordinates / 2)

-- ---- the first record of each table that is not allowed

unfoldable pub bad_layer : List ℤ → List ℕ → Option ℕ
bad_layer numbers names = first_in (λ k. not (layer_allowed numbers names k)) 0 (layer_count (length numbers) (length names))

unfoldable pub bad_pair : List ℕ → Option ℕ
bad_pair table = first_in (λ k. not (pair_allowed table k)) 0 (record_count (length table) 64)

unfoldable pub bad_stack : List ℕ → Option ℕ
bad_stack table = first_in (λ k. not (stack_allowed table k)) 0 (record_count (length table) 96)

unfoldable pub bad_port : List ℕ → ℕ → Option ℕ
bad_port names coordinates = first_in (λ k. not (port_allowed names coordinates k)) 0 (port_count (length names) coordinates)
