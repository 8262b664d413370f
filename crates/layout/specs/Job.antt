-- The whole input of a call, list by list.
use Rattle.std.specs.Prelude.{ℕ, List, Float, ℤ}
use Rattle.layout.specs.declared.job.Layout.{Layout as LentLayout}
use Rattle.layout.specs.declared.job.Job.{Job as LentJob}
use Rattle.layout.specs.declared.job.CutJob.{CutJob as LentCutJob}

-- the polygons and the layer table, which every call takes
pub record Layout : Type 0 where
  -- x then y, ring after ring
  pub points : List Float
  -- the points of each ring
  pub lengths : List ℕ
  -- the layer number of each polygon
  pub layers : List ℤ
  -- layer number to logical name
  pub layer_numbers : List ℤ
  pub layer_names : List ℕ

-- what the extraction takes
pub record Job : Type 0 where
  pub layout : Layout
  -- logical to physical, 64 bytes a record
  pub conducting : List ℕ
  pub via : List ℕ
  -- via, bottom or absent, top or absent, 96 bytes a record
  pub stack : List ℕ
  -- name and logical layer, 64 bytes a record, beside x and y
  pub port_names : List ℕ
  pub port_points : List Float

-- what the cut and the channel regions take
pub record CutJob : Type 0 where
  pub layout : Layout
  -- the two names, 32 bytes each
  pub gate : List ℕ
  pub active : List ℕ

-- what a caller lends, by what its lists hold
abbrev pub layout_of : LentLayout → Layout
layout_of l = record {
  points = l.points.now;
  lengths = l.lengths.now;
  layers = l.layers.now;
  layer_numbers = l.layer_table.numbers.now;
  layer_names = l.layer_table.names.now;
}

abbrev pub job_of : LentJob → Job
job_of j = record {
  layout = layout_of j.layout;
  conducting = j.conducting.now;
  via = j.via.now;
  stack = j.stack.now;
  port_names = j.ports.names.now;
  port_points = j.ports.points.now;
}

abbrev pub cut_job_of : LentCutJob → CutJob
cut_job_of j = record { layout = layout_of j.layout; gate = j.gate.now; active = j.active.now }
