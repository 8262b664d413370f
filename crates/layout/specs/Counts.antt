-- Counts, and the tests of the answers 1, 2 and 3.
use Rattle.std.specs.Prelude.{Option, ℕ, ◌/◌, ◌%◌, max, Bool, not, ◌||◌, List, [], ◌∷◌, ◌++◌, ltb, eqb, length, get_or}
use Rattle.lists.specs.Scans.{first_in, first_true, clear}
use Rattle.names.specs.Tables.{record_count}
use Rattle.layout.specs.Bounds.{max_polygons, max_ring, max_points, max_records, connection_room, cut_coordinates, cut_rings, channel_coordinates}
use Rattle.layout.specs.Job.{Layout, Job}
use Rattle.layout.specs.Rings.{total}

-- the records of the layer table, from the lengths of its lists
abbrev pub layer_count : ℕ → ℕ → ℕ
layer_count numbers names = max numbers (record_count names 32)

-- the ports, from the lengths of their lists
abbrev pub port_count : ℕ → ℕ → ℕ
port_count names coordinates = max (record_count names 64) (record_count coordinates 2)

-- ---- answer 1: which lent list is too short

-- components for so many polygons, connections, landings for so many ports
unfoldable pub short_extraction : ℕ → ℕ → ℕ → ℕ → ℕ → Option ℕ
short_extraction polygons ports components connections landings =
    first_true 0 (ltb components polygons ∷ ltb connections connection_room ∷ ltb landings ports ∷ [])

-- coordinates, ring lengths and source indices of the cut
unfoldable pub short_cut : ℕ → ℕ → ℕ → Option ℕ
short_cut coordinates lengths sources =
    first_true 0 (ltb coordinates cut_coordinates ∷ ltb lengths cut_rings ∷ ltb sources cut_rings ∷ [])

-- coordinates of the channel regions
unfoldable pub short_channel : ℕ → Option ℕ
short_channel coordinates = first_true 0 (ltb coordinates channel_coordinates ∷ [])

-- ---- answer 2: which count is over its bound

-- the first ring of too many points
unfoldable pub long_ring : List ℕ → Option ℕ
long_ring lengths = first_in (λ i. ltb max_ring (get_or lengths i 0)) 0 (length lengths)

-- places 0 to 3: polygons, points, one ring, layers
abbrev pub layout_tests : List ℕ → ℕ → ℕ → List Bool
layout_tests lengths coordinates layers =
    ltb max_polygons (length lengths) ∷ ltb max_points (coordinates / 2) ∷ not (clear (long_ring lengths)) ∷ ltb max_records layers ∷ []

-- places 4 to 7: conducting, via, stack, ports
abbrev pub table_tests : ℕ → ℕ → ℕ → ℕ → List Bool
table_tests conducting via stack ports =
    ltb max_records conducting ∷ ltb max_records via ∷ ltb max_records stack ∷ ltb max_records ports ∷ []

-- of a layout: its ring lengths, the number of its coordinates and of its layer records
unfoldable pub over_layout : List ℕ → ℕ → ℕ → Option ℕ
over_layout lengths coordinates layers = first_true 0 (layout_tests lengths coordinates layers)

-- of the other tables, by the numbers of their records
unfoldable pub over_tables : ℕ → ℕ → ℕ → ℕ → Option ℕ
over_tables conducting via stack ports = first_true 4 (table_tests conducting via stack ports)

-- of both
unfoldable pub over_both : List ℕ → ℕ → ℕ → ℕ → ℕ → ℕ → ℕ → Option ℕ
over_both lengths coordinates layers conducting via stack ports =
    first_true 0 (layout_tests lengths coordinates layers ++ table_tests conducting via stack ports)

-- a cut or channel regions
abbrev pub over_cut : Layout → Option ℕ
over_cut l = over_layout l.lengths (length l.points) (layer_count (length l.layer_numbers) (length l.layer_names))

-- an extraction
abbrev pub over_extraction : Job → Option ℕ
over_extraction job =
    over_both job.layout.lengths (length job.layout.points) (layer_count (length job.layout.layer_numbers) (length job.layout.layer_names))
    (record_count (length job.conducting) 64) (record_count (length job.via) 64) (record_count (length job.stack) 96)
    (port_count (length job.port_names) (length job.port_points))

-- ---- answer 3: half a pair, another number of layers than of rings, or rings that do not add up to the points

unfoldable pub uneven : ℕ → List ℕ → ℕ → Bool
uneven coordinates lengths layers =
    not (eqb (coordinates % 2) 0) || (not (eqb (length lengths) layers) || not (eqb (total lengths) (coordinates / 2)))
