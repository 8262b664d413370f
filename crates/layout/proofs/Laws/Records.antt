-- Records that are not wholly there, and where a record that is found stands. Assumes nothing.
use Rattle.std.specs.Prelude.{Some}
use mathlib.Core.Path.{◌≡◌}
use mathlib.Core.Bool.{true, false, and-false, and-eq-true_iff}
use Prim.Native.Nat.{ℕ, ◌+◌, ◌*◌, ◌/◌, ◌≤◌, ◌<◌}
use native.Mathlib.Omega.{arith}
use borrow.Author.Tests.{lt-leb, leb-true, ltb-true}
use mathlib.Core.List.{List}
use lib.Dec.{ltb}
use lib.IntN.{ℤ}
use lib.ListN.{length}
use Rattle.lists.proofs.Laws.Scans.{found}
use Rattle.names.specs.Fields.{name_allowed, field_at}
use Rattle.names.specs.Tables.{record_count}
use Rattle.names.proofs.Laws.Fields.{no_name_short, no_absent_short}
use Rattle.names.proofs.Laws.Names.{name_whole}
use Rattle.layout.specs.Counts.{layer_count, port_count}
use Rattle.layout.specs.Records.{layer_named, pair_named, stack_allowed, bad_layer, bad_pair, bad_stack, bad_port}

-- ---- the layer table

module _ (numbers : List ℤ) (names : List ℕ) (k : ℕ) where
  pub layer_short : length names / 32 ≤ k → layer_named numbers names k ≡ false
  unfolding layer_named
  layer_short h = rw (no_name_short names (k * 32) (lt-leb (k * 32 + 32) (length names) (omega arith)), and-false)

  pub layer_there : layer_named numbers names k ≡ true → k < length numbers
  unfolding layer_named
  layer_there h = ltb-true k (length numbers) ((and-eq-true_iff (ltb k (length numbers)) _).0 h).0

-- ---- pairs

module _ (table : List ℕ) (k : ℕ) where
  pub pair_short : length table / 64 ≤ k → pair_named table k ≡ false
  unfolding pair_named
  pair_short h = rw (no_name_short table (k * 64 + 32) (lt-leb (k * 64 + 32 + 32) (length table) (omega arith)), and-false)

  -- a pair with its names is wholly there
  pub pair_there : pair_named table k ≡ true → k * 64 + 64 ≤ length table
  unfolding pair_named
  pair_there h =
      let second = ((and-eq-true_iff (name_allowed (field_at table (k * 64))) _).0 h).1 in
      omega (arith, leb-true (k * 64 + 32 + 32) (length table) (name_whole table (k * 64 + 32) second))

  -- ---- the via stack

  pub stack_short : length table / 96 ≤ k → stack_allowed table k ≡ false
  unfolding stack_allowed
  stack_short h = rw (no_absent_short table (k * 96 + 64) (lt-leb (k * 96 + 64 + 32) (length table) (omega arith)), and-false, and-false)

-- ---- a record that is found is one of the table

pub bad_layer_below : (numbers : List ℤ) (names : List ℕ) {k : ℕ} → bad_layer numbers names ≡ Some k → k < layer_count (length numbers) (length names)
unfolding bad_layer
bad_layer_below numbers names h = (found _ 0 (layer_count (length numbers) (length names)) h).below

pub bad_pair_below : (table : List ℕ) {k : ℕ} → bad_pair table ≡ Some k → k < record_count (length table) 64
unfolding bad_pair
bad_pair_below table h = (found _ 0 (record_count (length table) 64) h).below

pub bad_stack_below : (table : List ℕ) {k : ℕ} → bad_stack table ≡ Some k → k < record_count (length table) 96
unfolding bad_stack
bad_stack_below table h = (found _ 0 (record_count (length table) 96) h).below

pub bad_port_below : (names : List ℕ) (coordinates : ℕ) {k : ℕ} → bad_port names coordinates ≡ Some k → k < port_count (length names) coordinates
unfolding bad_port
bad_port_below names coordinates h = (found _ 0 (port_count (length names) coordinates) h).below
