-- The lists that the operations on two rings are lent to work in.
use Rattle.std.specs.Prelude.{◌≡◌, ◌+◌, ◌≤◌, List, length, Float}
use Rattle.geometry.specs.Ring.{points_in}
use Rattle.geomops.specs.declared.polygons.Work.{Work}

-- room for the crossings of each ring
abbrev pub CrossingRoom : List Float → List Float → List Float → List Float → Type 0
CrossingRoom a b xa xb = (points_in a ≤ length xa) × (points_in b ≤ length xb)

-- room for the heights of both rings, twice
abbrev pub HeightRoom : List Float → List Float → List Float → List Float → Type 0
HeightRoom a b hs ys = (points_in a + points_in b ≤ length hs) × (points_in a + points_in b ≤ length ys)

abbrev pub HasRoom : List Float → List Float → Work → Type 0
HasRoom a b work = CrossingRoom a b work.xa.now work.xb.now × HeightRoom a b work.hs.now work.ys.now

-- each list is as long as it was
abbrev pub SameRoom : Work → Work → Type 0
SameRoom before after =
    (length after.hs.now ≡ length before.hs.now) × (length after.ys.now ≡ length before.ys.now) × (length after.xa.now ≡ length before.xa.now) × (length after.xb.now ≡ length before.xb.now)
