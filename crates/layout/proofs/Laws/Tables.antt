-- What the search through each table tells of it where it found nothing: every record is wholly there, with allowed names and a key of its
-- own. The last record that is counted gives the length. Assumes nothing.
use Rattle.std.specs.Prelude.{Some, None}
use mathlib.Core.Path.{◌≡◌, refl, sym, ◌∙◌}
use mathlib.Core.Bool.{true, not}
use mathlib.Core.List.{List}
use Prim.Native.Nat.{ℕ, zero, suc, ◌+◌, ◌*◌, ◌/◌, ◌≤◌, ◌<◌, zero-le}
use native.Mathlib.Nat.{le-max_left, le-max_right}
use native.Mathlib.Omega.{arith}
use borrow.Author.Tests.{ltb-true, leb-true, not-false}
use lib.Dec.{ltb}
use lib.IntN.{ℤ, pos}
use lib.ListN.{length, get_or}
use Rattle.lists.proofs.Laws.Scans.{found_none}
use Rattle.names.specs.Fields.{name_allowed, name_or_absent, field_at}
use Rattle.names.specs.Tables.{record_count, look_up, layer_record}
use Rattle.names.proofs.Laws.Names.{name_whole, absent_whole, same_name}
use Rattle.names.proofs.Laws.Order.{other_of_false}
use Rattle.names.proofs.Laws.Tables.{look_up_found, layer_found, other_int}
use Rattle.layout.specs.Bounds.{max_records}
use Rattle.layout.specs.Counts.{layer_count, port_count}
use Rattle.layout.specs.Records.{found_at, layer_named, layer_allowed, pair_named, pair_allowed, stack_allowed, port_allowed, bad_layer, bad_pair, bad_stack, bad_port}
use Rattle.layout.specs.Accepted.{LayerTable, PairTable, NameMap, StackTable}
use Rattle.layout.proofs.Laws.Records.{pair_there}
use Rattle.layout.proofs.Laws.Passed.{found_itself, both}

-- ---- the layer table

record LayerRecord (numbers : List ℤ) (names : List ℕ) (k : ℕ) : Type 0 where
  pub there : k < length numbers
  pub name : name_allowed (field_at names (k * 32)) ≡ true
  pub whole : k * 32 + 32 ≤ length names
  pub first : layer_record numbers (get_or numbers k (pos 0)) ≡ Some k

layer_record_lem : (numbers : List ℤ) (names : List ℕ) (k : ℕ) → layer_allowed numbers names k ≡ true → LayerRecord numbers names k
unfolding layer_named layer_allowed
layer_record_lem numbers names k h =
    let outer = both (layer_named numbers names k) _ h in
    let inner = both (ltb k (length numbers)) _ outer.0 in
    record {
      there = ltb-true k (length numbers) inner.0;
      name = inner.1;
      whole = leb-true (k * 32 + 32) (length names) (name_whole names (k * 32) inner.1);
      first = found_itself k _ outer.1;
    }

pub layer_table : (numbers : List ℤ) (names : List ℕ) → layer_count (length numbers) (length names) ≤ max_records → bad_layer numbers names ≡ None →
    LayerTable numbers names
unfolding bad_layer
layer_table numbers names few h = record {
  few = omega (arith, numbered);
  whole = size (layer_count (length numbers) (length names)) refl;
  name = λ k below. (each k (omega (arith, numbered))).name;
  unique = λ j k before below same.
      other_int _ _ ((layer_found numbers (get_or numbers k (pos 0)) (each k (omega (arith, numbered))).first).first j zero-le before) same;
}
  where
    numbered : length numbers ≤ layer_count (length numbers) (length names)
    numbered = le-max_left (length numbers) (record_count (length names) 32)

    named : record_count (length names) 32 ≤ layer_count (length numbers) (length names)
    named = le-max_right (length numbers) (record_count (length names) 32)

    each : (k : ℕ) → k < layer_count (length numbers) (length names) → LayerRecord numbers names k
    each k below = layer_record_lem numbers names k
        (not-false _ (found_none (λ k. not (layer_allowed numbers names k)) 0 (layer_count (length numbers) (length names)) h k zero-le below))

    size : (n : ℕ) → layer_count (length numbers) (length names) ≡ n → length names ≡ length numbers * 32
    size zero e = omega (arith, numbered, named)
    size (suc m) e =
        let last = each m (omega arith) in
        omega (arith, last.there, last.whole, numbered, named)

-- ---- pairs

record PairRecord (table : List ℕ) (k : ℕ) : Type 0 where
  pub first : name_allowed (field_at table (k * 64)) ≡ true
  pub second : name_allowed (field_at table (k * 64 + 32)) ≡ true

pair_record : (table : List ℕ) (k : ℕ) → pair_named table k ≡ true → PairRecord table k
unfolding pair_named
pair_record table k h =
    let names = both (name_allowed (field_at table (k * 64))) _ h in
    record { first = names.0; second = names.1 }

pub pair_table : (table : List ℕ) → record_count (length table) 64 ≤ max_records → ((k : ℕ) → k < record_count (length table) 64 → pair_named table k ≡ true) →
    PairTable table
pair_table table few each = record {
  few = omega arith;
  whole = size (record_count (length table) 64) refl;
  first = λ k below. (pair_record table k (each k (omega arith))).first;
  second = λ k below. (pair_record table k (each k (omega arith))).second;
}
  where
    size : (n : ℕ) → record_count (length table) 64 ≡ n → length table ≡ length table / 64 * 64
    size zero e = omega arith
    size (suc m) e = omega (arith, pair_there table m (each m (omega arith)))

pub name_map : (table : List ℕ) → record_count (length table) 64 ≤ max_records → bad_pair table ≡ None → NameMap table
unfolding bad_pair pair_allowed
name_map table few h = record {
  pairs = pairs;
  unique = λ j k before below same.
      let first = (look_up_found table 64 table (k * 64) (found_itself k _ (each k (omega arith)).1)).first j zero-le before in
      other_of_false (sym (same_name table (j * 64) table (k * 64) (pairs.first j (omega arith)) (pairs.first k below)) ∙ first) same;
}
  where
    each : (k : ℕ) → k < record_count (length table) 64 → (pair_named table k ≡ true) × (found_at k (look_up table 64 table (k * 64)) ≡ true)
    each k below = both (pair_named table k) _ (not-false _ (found_none (λ k. not (pair_allowed table k)) 0 (record_count (length table) 64) h k zero-le below))

    pairs : PairTable table
    pairs = pair_table table few (λ k below. (each k below).0)

-- ---- the via stack

record StackRecord (table : List ℕ) (k : ℕ) : Type 0 where
  pub name : name_allowed (field_at table (k * 96)) ≡ true
  pub bottom : name_or_absent (field_at table (k * 96 + 32)) ≡ true
  pub top : name_or_absent (field_at table (k * 96 + 64)) ≡ true

stack_record : (table : List ℕ) (k : ℕ) → stack_allowed table k ≡ true → StackRecord table k
unfolding stack_allowed
stack_record table k h =
    let outer = both (name_allowed (field_at table (k * 96))) _ h in
    let inner = both (name_or_absent (field_at table (k * 96 + 32))) _ outer.1 in
    record { name = outer.0; bottom = inner.0; top = inner.1 }

pub stack_table : (table : List ℕ) → record_count (length table) 96 ≤ max_records → bad_stack table ≡ None → StackTable table
unfolding bad_stack
stack_table table few h = record {
  few = omega arith;
  whole = size (record_count (length table) 96) refl;
  name = λ k below. (each k (omega arith)).name;
  bottom = λ k below. (each k (omega arith)).bottom;
  top = λ k below. (each k (omega arith)).top;
}
  where
    each : (k : ℕ) → k < record_count (length table) 96 → StackRecord table k
    each k below = stack_record table k (not-false _ (found_none (λ k. not (stack_allowed table k)) 0 (record_count (length table) 96) h k zero-le below))

    size : (n : ℕ) → record_count (length table) 96 ≡ n → length table ≡ length table / 96 * 96
    size zero e = omega arith
    size (suc m) e = omega (arith, leb-true (m * 96 + 64 + 32) (length table) (absent_whole table (m * 96 + 64) (each m (omega arith)).top))

-- ---- the ports

pub record PortTable (names : List ℕ) (coordinates : ℕ) : Type 0 where
  pub pairs : PairTable names
  pub points : coordinates ≡ length names / 64 * 2

pub port_table : (names : List ℕ) (coordinates : ℕ) → port_count (length names) coordinates ≤ max_records → bad_port names coordinates ≡ None → PortTable names coordinates
unfolding bad_port port_allowed
port_table names coordinates few h = record {
  pairs = pair_table names (omega (arith, named)) (λ k below. (each k (omega (arith, named))).0);
  points = size (port_count (length names) coordinates) refl;
}
  where
    named : record_count (length names) 64 ≤ port_count (length names) coordinates
    named = le-max_left (record_count (length names) 64) (record_count coordinates 2)

    placed : record_count coordinates 2 ≤ port_count (length names) coordinates
    placed = le-max_right (record_count (length names) 64) (record_count coordinates 2)

    each : (k : ℕ) → k < port_count (length names) coordinates → (pair_named names k ≡ true) × (ltb k (coordinates / 2) ≡ true)
    each k below = both (pair_named names k) _ (not-false _ (found_none (λ k. not (port_allowed names coordinates k)) 0 (port_count (length names) coordinates) h k zero-le below))

    size : (n : ℕ) → port_count (length names) coordinates ≡ n → coordinates ≡ length names / 64 * 2
    size zero e = omega (arith, named, placed)
    size (suc m) e =
        let last = each m (omega arith) in
        omega (arith, pair_there names m last.0, ltb-true m (coordinates / 2) last.1, named, placed)
