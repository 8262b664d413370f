-- The bounds of document 01, each under one name.
use Rattle.std.specs.Prelude.{ℕ}

-- "What comes in": 512 polygons, 256 points a ring, 4,096 points, 64 records a table
abbrev pub max_polygons : ℕ
max_polygons = 512

abbrev pub max_ring : ℕ
max_ring = 256

abbrev pub max_points : ℕ
max_points = 4096

abbrev pub max_records : ℕ
max_records = 64

-- "Extraction lends": connections, 4,096 numbers
abbrev pub connection_room : ℕ
connection_room = 4096

-- "The cut lends": 8,192 coordinates, 512 ring lengths and 512 source indices
abbrev pub cut_coordinates : ℕ
cut_coordinates = 8192

abbrev pub cut_rings : ℕ
cut_rings = 512

-- "Channel regions lend": 4,096 coordinates
abbrev pub channel_coordinates : ℕ
channel_coordinates = 4096
