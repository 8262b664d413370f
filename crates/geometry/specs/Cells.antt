-- The square cells of the plane ("From polygons to nets", rule 3): floor(x / 4e-6) and floor(y / 4e-6), from the box's corners.
use Rattle.std.specs.Prelude.{ℤ, from_bits, Float}
use Rattle.std.specs.Float.{binary64}
use Rattle.std.specs.Float.Ieee.{div}
use Rattle.geometry.specs.declared.boxes.Bbox.{Bbox}
use Rattle.geometry.specs.declared.boxes.Cells.{Cells}
use Rattle.geometry.specs.Number.{floor_of}

-- 4e-6: the side of a cell, in metres
abbrev pub side : Float
side = from_bits binary64 0x3ed0_c6f7_a0b5_ed8d

-- the cell of a coordinate
unfoldable pub cell_of : Float → ℤ
cell_of x = floor_of (div binary64 x side)

-- the cells of a box, from its corners
unfoldable pub cells_of : Bbox → Cells
cells_of b = record { x0 = cell_of b.min_x; y0 = cell_of b.min_y; x1 = cell_of b.max_x; y1 = cell_of b.max_y }
