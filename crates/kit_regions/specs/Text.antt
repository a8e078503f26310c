-- The text of a plan's regions, and that of its simulation.
use Rattle.std.specs.Prelude.{ℕ, Bool, if◌then◌else◌, List, [], ◌++◌, length, slice_index_or, codes, decimal}
use Rattle.std.specs.List.{flat_map, range_with_len}
use Rattle.kit_base.specs.declared.message.Message.{Message}
use Rattle.kit_base.specs.declared.history.Line.{Line}
use Rattle.kit_base.specs.declared.history.Line.TheVariants.{Deliver, Grant}
use Rattle.kit_rules.specs.declared.table.Federate.{Federate}
use Rattle.kit_rules.specs.Parts.{nobody}
use Rattle.kit_rules.specs.Simulation.{lines_of, closing_vars}
use Rattle.kit_rules.specs.Text.{value_text, closings_text}
use Rattle.kit_regions.specs.declared.region.Update.{Update}
use Rattle.kit_regions.specs.Plan.{Plan, update_at, planned_federate_at}
use Rattle.kit_regions.specs.Overlap.{is_subscribed}
use Rattle.kit_regions.specs.Regional.{regional_simulation}

-- the name of federate j after a space, where it passes a test
abbrev pub name_where : (ℕ → Bool) → List Federate → ℕ → List ℕ
name_where t fs j = if t j then codes " " ++ (slice_index_or fs j nobody).name else []

-- the names of those that pass, in ascending order
abbrev pub names_where : (ℕ → Bool) → List Federate → List ℕ
names_where t fs = flat_map (name_where t fs) (range_with_len 0 (length fs))

-- the name of an update, of its group, and its range
abbrev pub region_head : Plan → Update → List ℕ
region_head plan u = codes "region " ++ u.name ++ codes " " ++ slice_index_or plan.groups u.group [] ++ codes " " ++ decimal u.range.from ++ codes " " ++ decimal u.range.to

-- an update, with the federates that have a subscription to its group which overlaps its range
abbrev pub region_line : Plan → Update → List ℕ
region_line plan u = region_head plan u ++ names_where (is_subscribed plan.subscriptions u) plan.federates ++ codes "\n"

-- a line for each update
abbrev pub regions_text : Plan → List ℕ
regions_text plan = flat_map (region_line plan) plan.updates

-- where a message comes from: its update and its sender
abbrev pub regional_origin : Plan → Message → List ℕ
regional_origin plan m = (update_at plan m.group).name ++ codes " " ++ (planned_federate_at plan m.sender).name ++ codes "#" ++ decimal m.number

-- a delivery or a grant
abbrev pub regional_line : Plan → Line → List ℕ
regional_line plan (Deliver d i m) = decimal d ++ codes " " ++ (planned_federate_at plan i).name ++ codes " got " ++ regional_origin plan m ++ value_text m
regional_line plan (Grant t i) = decimal t ++ codes " " ++ (planned_federate_at plan i).name ++ codes " grant\n"

-- the text of the simulation of a plan
abbrev pub regional_text : Plan → List ℕ
regional_text plan = flat_map (regional_line plan) (lines_of (regional_simulation plan).blocks) ++ closings_text plan.federates (closing_vars (regional_simulation plan))
