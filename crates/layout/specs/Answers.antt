-- "Answer numbers, in the order tested": the answer to a whole input, its number and place, and what it leaves in the lent lists.
use Rattle.std.specs.Prelude.{◌≡◌, Option, Some, None, Result, Ok, Err, ℕ, ◌+◌, Bool, true, false, not, List, [], ◌∷◌, length, replicate, Float, ℤ}
use Rattle.lists.specs.Marks.{empty_number, empty_coordinate}
use Rattle.lists.specs.Scans.{first_true}
use Rattle.names.specs.Fields.{name_allowed}
use Rattle.names.specs.Tables.{record_count}
use Rattle.layout.specs.declared.refusal.Refusal.{Refusal}
use Rattle.layout.specs.declared.refusal.Refusal.TheVariants.{ShortList, OverCount, Uneven, Coordinate, Name, OverResult}
use Rattle.layout.specs.Job.{Layout, Job, CutJob}
use Rattle.layout.specs.Coordinates.{bad_coordinate}
use Rattle.layout.specs.Counts.{layer_count, port_count, short_extraction, short_cut, short_channel, over_cut, over_extraction, uneven}
use Rattle.layout.specs.Records.{bad_layer, bad_pair, bad_stack, bad_port}

-- ---- the table's number and place of each answer

abbrev pub number_of : Refusal → ℕ
number_of (ShortList k) = 1
number_of (OverCount k) = 2
number_of Uneven = 3
number_of (Coordinate k) = 4
number_of (Name k) = 5
number_of (OverResult k) = 6

abbrev pub place_of : Refusal → ℕ
place_of (ShortList k) = k
place_of (OverCount k) = k
place_of Uneven = 0
place_of (Coordinate k) = k
place_of (Name k) = k
place_of (OverResult k) = k

-- whether a call is let in: granted, or refused for a reason
abbrev pub Admission : Type 0
Admission = Result (Unit {0}) Refusal

-- 0 and 0 for an accepted call
abbrev pub answer_number : Admission → ℕ
answer_number (Ok u) = 0
answer_number (Err why) = number_of why

abbrev pub answer_place : Admission → ℕ
answer_place (Ok u) = 0
answer_place (Err why) = place_of why

-- ---- places counted through several lists

-- a list of n elements, by the first of them that is bad, and what stands behind it, by the first that is bad there
abbrev pub counted : ℕ → Option ℕ → Option ℕ → Option ℕ
counted n (Some k) behind = Some k
counted n None (Some k) = Some (n + k)
counted n None None = None

-- answer 4: the coordinates of the ports counted after those of the points
unfoldable pub bad_coordinates : List Float → List Float → Option ℕ
bad_coordinates points port_points = counted (length points) (bad_coordinate points) (bad_coordinate port_points)

-- answer 5 of the extraction: layers, conducting, via, stack, ports
unfoldable pub bad_record : List ℤ → List ℕ → List ℕ → List ℕ → List ℕ → List ℕ → ℕ → Option ℕ
bad_record layer_numbers layer_names conducting via stack port_names port_coordinates =
    counted (layer_count (length layer_numbers) (length layer_names)) (bad_layer layer_numbers layer_names)
    (counted (record_count (length conducting) 64) (bad_pair conducting)
    (counted (record_count (length via) 64) (bad_pair via)
    (counted (record_count (length stack) 96) (bad_stack stack)
    (bad_port port_names port_coordinates))))

-- answer 5 of the cut and the channel regions: layers, then the gate's name, then the active's
unfoldable pub bad_mark : List ℤ → List ℕ → List ℕ → List ℕ → Option ℕ
bad_mark layer_numbers layer_names gate active =
    counted (layer_count (length layer_numbers) (length layer_names)) (bad_layer layer_numbers layer_names)
    (first_true 0 (not (name_allowed gate) ∷ not (name_allowed active) ∷ []))

-- ---- the answer

-- refuses where a search found a place, and else goes on to the next test
abbrev pub refuse_at : (ℕ → Refusal) → Option ℕ → Admission → Admission
refuse_at why (Some k) next = Err (why k)
refuse_at why None next = next

abbrev pub refuse_if : Refusal → Bool → Admission → Admission
refuse_if why true next = Err why
refuse_if why false next = next

-- the answer, from what each of the five tests says
abbrev pub answer_of : Option ℕ → Option ℕ → Bool → Option ℕ → Option ℕ → Admission
answer_of short over odd coordinate name =
    refuse_at ShortList short (refuse_at OverCount over (refuse_if Uneven odd (refuse_at Coordinate coordinate (refuse_at Name name (Ok tt)))))

abbrev pub uneven_in : Layout → Bool
uneven_in l = uneven (length l.points) l.lengths (length l.layers)

-- the extraction, with the lengths of its lent lists
unfoldable pub admit_extraction : Job → ℕ → ℕ → ℕ → Admission
admit_extraction job components connections landings = answer_of
    (short_extraction (length job.layout.lengths) (port_count (length job.port_names) (length job.port_points)) components connections landings)
    (over_extraction job)
    (uneven_in job.layout)
    (bad_coordinates job.layout.points job.port_points)
    (bad_record job.layout.layer_numbers job.layout.layer_names job.conducting job.via job.stack job.port_names (length job.port_points))

-- the cut and the channel regions, by which of their lent lists is too short
unfoldable pub admit_marked : CutJob → Option ℕ → Admission
admit_marked job short = answer_of
    short
    (over_cut job.layout)
    (uneven_in job.layout)
    (bad_coordinate job.layout.points)
    (bad_mark job.layout.layer_numbers job.layout.layer_names job.gate job.active)

abbrev pub admit_cut : CutJob → ℕ → ℕ → ℕ → Admission
admit_cut job coordinates lengths sources = admit_marked job (short_cut coordinates lengths sources)

abbrev pub admit_channel : CutJob → ℕ → Admission
admit_channel job coordinates = admit_marked job (short_channel coordinates)

-- ---- what the answer leaves: on a refusal a lent list is its mark from end to end, else it is as it was

unfoldable pub left_by : {A : Type 0} → A → Admission → List A → List A
left_by mark (Ok u) list = list
left_by mark (Err why) list = replicate (length list) mark

-- the answer of the extraction's door, and its lent lists at exit
pub record EnteredExtraction (job : Job) (components connections landings components' connections' landings' : List ℕ) (r : Admission) : Type 0 where
  pub answer : r ≡ admit_extraction job (length components) (length connections) (length landings)
  pub components_left : components' ≡ left_by empty_number r components
  pub connections_left : connections' ≡ left_by empty_number r connections
  pub landings_left : landings' ≡ left_by empty_number r landings

-- the answer of the cut's door, and its lent lists at exit
pub record EnteredCut (job : CutJob) (coordinates : List Float) (lengths sources : List ℕ) (coordinates' : List Float) (lengths' sources' : List ℕ) (r : Admission) : Type 0 where
  pub answer : r ≡ admit_cut job (length coordinates) (length lengths) (length sources)
  pub coordinates_left : coordinates' ≡ left_by empty_coordinate r coordinates
  pub lengths_left : lengths' ≡ left_by empty_number r lengths
  pub sources_left : sources' ≡ left_by empty_number r sources

-- the answer of the channel regions' door, and its lent list at exit
pub record EnteredChannel (job : CutJob) (coordinates coordinates' : List Float) (r : Admission) : Type 0 where
  pub answer : r ≡ admit_channel job (length coordinates)
  pub coordinates_left : coordinates' ≡ left_by empty_coordinate r coordinates
