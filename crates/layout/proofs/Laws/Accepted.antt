-- What an accepted answer tells of the whole input: the record that everything behind the front door relies on. Each test that was
-- passed gives its part. Assumes nothing.
use Rattle.std.specs.Prelude.{Option, None, Ok}
use mathlib.Core.Path.{◌≡◌, refl, sym}
use mathlib.Core.Bool.{Bool, true, false, not}
use mathlib.Core.List.{List, [], ◌∷◌, ◌++◌}
use Prim.Native.Nat.{ℕ, ◌*◌, ◌/◌, ◌%◌, ◌≤◌, zero-le}
use native.Mathlib.Nat.{le-max_left}
use native.Mathlib.Omega.{arith}
use borrow.Author.Tests.{ltb-true, ltb-false, eqb-true, not-false}
use lib.Dec.{ltb, eqb}
use lib.Ieee.{Float, nan}
use lib.ListN.{length, get_or, get_or-eq_default}
use Rattle.lists.specs.All.{AllOf}
use Rattle.lists.specs.Scans.{first_true, clear}
use Rattle.lists.proofs.Laws.All.{all_by}
use Rattle.lists.proofs.Laws.Scans.{found_none}
use Rattle.names.specs.Fields.{name_allowed}
use Rattle.names.specs.Tables.{record_count}
use Rattle.layout.specs.Bounds.{max_polygons, max_points, max_ring, max_records, connection_room, cut_coordinates, cut_rings, channel_coordinates}
use Rattle.layout.specs.Job.{Layout, Job, CutJob}
use Rattle.layout.specs.Rings.{total}
use Rattle.geometry.specs.Coordinates.{coordinate}
use Rattle.layout.specs.Coordinates.{bad_coordinate}
use Rattle.layout.specs.Counts.{layer_count, port_count, short_extraction, short_cut, short_channel, long_ring, layout_tests, table_tests, over_layout, over_both, over_cut, over_extraction, uneven}
use Rattle.layout.specs.Records.{bad_layer, bad_pair, bad_stack, bad_port}
use Rattle.layout.specs.Answers.{counted, bad_coordinates, bad_record, bad_mark, uneven_in, admit_extraction, admit_marked, admit_cut, admit_channel}
use Rattle.layout.specs.Accepted.{Polygons, Accepted, Room, AcceptedCut, CutRoom}
use Rattle.layout.proofs.Laws.Rings.{start_within}
use Rattle.layout.proofs.Laws.Passed.{Passed, passed, none_true, counted_here, counted_behind, neither, clear_of}
use Rattle.layout.proofs.Laws.Tables.{layer_table, name_map, stack_table, port_table}

-- ---- the polygons

coordinates_allowed : (xs : List Float) → bad_coordinate xs ≡ None → AllOf coordinate xs
unfolding bad_coordinate
coordinates_allowed xs h = all_by coordinate xs nan (λ i below. not-false _ (found_none (λ i. not (coordinate (get_or xs i nan))) 0 (length xs) h i zero-le below))

rings_small : (lengths : List ℕ) → long_ring lengths ≡ None → (i : ℕ) → get_or lengths i 0 ≤ max_ring
unfolding long_ring
rings_small lengths h i = go (ltb i (length lengths)) refl
  where
    go : (b : Bool) → ltb i (length lengths) ≡ b → get_or lengths i 0 ≤ max_ring
    go true e = ltb-false max_ring (get_or lengths i 0) (found_none (λ i. ltb max_ring (get_or lengths i 0)) 0 (length lengths) h i zero-le (ltb-true i (length lengths) e))
    go false e = omega (arith, get_or-eq_default lengths 0 (ltb-false i (length lengths) e))

polygons : (l : Layout) → ltb max_polygons (length l.lengths) ≡ false → ltb max_points (length l.points / 2) ≡ false →
    not (clear (long_ring l.lengths)) ≡ false → uneven_in l ≡ false → bad_coordinate l.points ≡ None → Polygons l
unfolding uneven
polygons l few points rings even coordinates =
    let pairs = neither (not (eqb (length l.points % 2) 0)) _ even in
    let rest = neither (not (eqb (length l.lengths) (length l.layers))) (not (eqb (total l.lengths) (length l.points / 2))) pairs.1 in
    let half : length l.points % 2 ≡ 0 = eqb-true (length l.points % 2) 0 (not-false _ pairs.0) in
    let sum : total l.lengths ≡ length l.points / 2 = eqb-true (total l.lengths) (length l.points / 2) (not-false _ rest.1) in
    let bound : length l.points / 2 ≤ max_points = ltb-false max_points (length l.points / 2) points in
    let whole : 2 * total l.lengths ≡ length l.points = omega arith in
    record {
      few = ltb-false max_polygons (length l.lengths) few;
      few_points = omega arith;
      small = rings_small l.lengths (clear_of (long_ring l.lengths) rings);
      whole = whole;
      inside = λ i. omega (arith, start_within l.lengths i);
      layered = sym (eqb-true (length l.lengths) (length l.layers) (not-false _ rest.0));
      coordinates = coordinates_allowed l.points coordinates;
    }

-- ---- the theorems

extraction_passed : (job : Job) (a b c : ℕ) → admit_extraction job a b c ≡ (Ok tt) →
    Passed (short_extraction (length job.layout.lengths) (port_count (length job.port_names) (length job.port_points)) a b c)
    (over_extraction job) (uneven_in job.layout) (bad_coordinates job.layout.points job.port_points)
    (bad_record job.layout.layer_numbers job.layout.layer_names job.conducting job.via job.stack job.port_names (length job.port_points))
unfolding admit_extraction
extraction_passed job a b c h = passed _ _ _ _ _ h

marked_passed : (job : CutJob) (short : Option ℕ) → admit_marked job short ≡ (Ok tt) →
    Passed short (over_cut job.layout) (uneven_in job.layout) (bad_coordinate job.layout.points)
    (bad_mark job.layout.layer_numbers job.layout.layer_names job.gate job.active)
unfolding admit_marked
marked_passed job short h = passed _ _ _ _ _ h

-- no table has a record that is not allowed
record RecordsClear (job : Job) : Type 0 where
  pub layers : bad_layer job.layout.layer_numbers job.layout.layer_names ≡ None
  pub conducting : bad_pair job.conducting ≡ None
  pub via : bad_pair job.via ≡ None
  pub stack : bad_stack job.stack ≡ None
  pub ports : bad_port job.port_names (length job.port_points) ≡ None

records_clear : (job : Job) →
    bad_record job.layout.layer_numbers job.layout.layer_names job.conducting job.via job.stack job.port_names (length job.port_points) ≡ None →
    RecordsClear job
unfolding bad_record
records_clear job h =
    let layers = bad_layer job.layout.layer_numbers job.layout.layer_names in
    let layer-records = layer_count (length job.layout.layer_numbers) (length job.layout.layer_names) in
    let conducting = bad_pair job.conducting in
    let pairs = record_count (length job.conducting) 64 in
    let via = bad_pair job.via in
    let vias = record_count (length job.via) 64 in
    let stack = bad_stack job.stack in
    let stacks = record_count (length job.stack) 96 in
    let ports = bad_port job.port_names (length job.port_points) in
    let h₁ = counted_behind layer-records layers (counted pairs conducting (counted vias via (counted stacks stack ports))) h in
    let h₂ = counted_behind pairs conducting (counted vias via (counted stacks stack ports)) h₁ in
    let h₃ = counted_behind vias via (counted stacks stack ports) h₂ in
    record {
      layers = counted_here layer-records layers (counted pairs conducting (counted vias via (counted stacks stack ports))) h;
      conducting = counted_here pairs conducting (counted vias via (counted stacks stack ports)) h₁;
      via = counted_here vias via (counted stacks stack ports) h₂;
      stack = counted_here stacks stack ports h₃;
      ports = counted_behind stacks stack ports h₃;
    }

-- an accepted extraction
pub accepted : (job : Job) (a b c : ℕ) → admit_extraction job a b c ≡ (Ok tt) → Accepted job
unfolding over_both bad_coordinates
accepted job a b c h =
    let p = extraction_passed job a b c h in
    let clear = records_clear job p.fifth in
    let layers = layer_count (length job.layout.layer_numbers) (length job.layout.layer_names) in
    let pairs = record_count (length job.conducting) 64 in
    let vias = record_count (length job.via) 64 in
    let stacks = record_count (length job.stack) 96 in
    let ports = port_count (length job.port_names) (length job.port_points) in
    let tests = none_true 0 (layout_tests job.layout.lengths (length job.layout.points) layers ++ table_tests pairs vias stacks ports) p.second in
    let points = bad_coordinate job.layout.points in
    let port_points = bad_coordinate job.port_points in
    let ported = port_table job.port_names (length job.port_points) (ltb-false max_records ports (tests 7)) clear.ports in
    record {
      polygons = polygons job.layout (tests 0) (tests 1) (tests 2) p.third (counted_here (length job.layout.points) points port_points p.fourth);
      layers = layer_table job.layout.layer_numbers job.layout.layer_names (ltb-false max_records layers (tests 3)) clear.layers;
      conducting = name_map job.conducting (ltb-false max_records pairs (tests 4)) clear.conducting;
      via = name_map job.via (ltb-false max_records vias (tests 5)) clear.via;
      stack = stack_table job.stack (ltb-false max_records stacks (tests 6)) clear.stack;
      ports = ported.pairs;
      port_points = ported.points;
      port_coordinates = coordinates_allowed job.port_points (counted_behind (length job.layout.points) points port_points p.fourth);
    }

-- its lent lists are long enough
pub room : (job : Job) (a b c : ℕ) → admit_extraction job a b c ≡ (Ok tt) → Room job a b c
unfolding short_extraction
room job a b c h =
    let ports = port_count (length job.port_names) (length job.port_points) in
    let tests = none_true 0 (ltb a (length job.layout.lengths) ∷ ltb b connection_room ∷ ltb c ports ∷ []) (extraction_passed job a b c h).first in
    record {
      components = ltb-false a (length job.layout.lengths) (tests 0);
      connections = ltb-false b connection_room (tests 1);
      landings = omega (arith, ltb-false c ports (tests 2), le-max_left (record_count (length job.port_names) 64) (record_count (length job.port_points) 2));
    }

-- an accepted cut, or accepted channel regions
pub accepted_cut : (job : CutJob) (short : Option ℕ) → admit_marked job short ≡ (Ok tt) → AcceptedCut job
unfolding over_layout bad_mark
accepted_cut job short h =
    let p = marked_passed job short h in
    let layers = layer_count (length job.layout.layer_numbers) (length job.layout.layer_names) in
    let tests = none_true 0 (layout_tests job.layout.lengths (length job.layout.points) layers) p.second in
    let bad = bad_layer job.layout.layer_numbers job.layout.layer_names in
    let marks = not (name_allowed job.gate) ∷ not (name_allowed job.active) ∷ [] in
    let names = none_true 0 marks (counted_behind layers bad (first_true 0 marks) p.fifth) in
    record {
      polygons = polygons job.layout (tests 0) (tests 1) (tests 2) p.third p.fourth;
      layers = layer_table job.layout.layer_numbers job.layout.layer_names (ltb-false max_records layers (tests 3)) (counted_here layers bad (first_true 0 marks) p.fifth);
      gate = not-false _ (names 0);
      active = not-false _ (names 1);
    }

-- the cut's lent lists are long enough
pub cut_room : (job : CutJob) (a b c : ℕ) → admit_cut job a b c ≡ (Ok tt) → CutRoom a b c
unfolding short_cut
cut_room job a b c h =
    let tests = none_true 0 (ltb a cut_coordinates ∷ ltb b cut_rings ∷ ltb c cut_rings ∷ []) (marked_passed job (short_cut a b c) h).first in
    record {
      coordinates = ltb-false a cut_coordinates (tests 0);
      lengths = ltb-false b cut_rings (tests 1);
      sources = ltb-false c cut_rings (tests 2);
    }

-- the channel regions' lent list is long enough
pub channel_room : (job : CutJob) (a : ℕ) → admit_channel job a ≡ (Ok tt) → channel_coordinates ≤ a
unfolding short_channel
channel_room job a h = ltb-false a channel_coordinates (none_true 0 (ltb a channel_coordinates ∷ []) (marked_passed job (short_channel a) h).first 0)
