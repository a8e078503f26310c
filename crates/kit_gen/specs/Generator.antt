-- The federation that the generator makes of a number.
use Rattle.std.specs.Prelude.{ℕ, ◌+◌, ◌-◌, ◌*◌, ◌/◌, ◌%◌, ◌^◌, ◌==◌, List, [], ◌∷◌, ◌++◌, map, Some, codes, decimal, if◌then◌else◌}
use Rattle.std.specs.List.{range_with_len}
use Rattle.kit_rules.specs.declared.table.Wish.{Wish}
use Rattle.kit_rules.specs.declared.table.Wish.TheVariants as wish
use Rattle.kit_rules.specs.declared.table.Operand.TheVariants.{Num, Var, Now, Value}
use Rattle.kit_rules.specs.declared.table.Compare.TheVariants.{Ge}
use Rattle.kit_rules.specs.declared.table.Cond.{Cond}
use Rattle.kit_rules.specs.declared.table.Trigger.TheVariants.{Grant, Got}
use Rattle.kit_rules.specs.declared.table.Action.{Action}
use Rattle.kit_rules.specs.declared.table.Action.TheVariants.{Set, Add, Send, Retract}
use Rattle.kit_rules.specs.declared.table.Rule.{Rule}
use Rattle.kit_rules.specs.declared.table.Var as variable
use Rattle.kit_rules.specs.declared.table.Group.{Group}
use Rattle.kit_rules.specs.declared.table.Federate.{Federate}
use Rattle.kit_rules.specs.Parts.{Parts}

-- one of n numbers from 0 on, for the place a, by a multiplicative hash of 32 bits
abbrev pub pick : ℕ → ℕ → ℕ → ℕ
pick seed a n = ((seed + a) % 2 ^ 32 * 2654435761) % 2 ^ 32 / 2 ^ 16 % n

-- how many federates there are, from 4 to 16, and as many groups
abbrev pub federate_count : ℕ → ℕ
federate_count seed = 4 + pick seed 1 13

abbrev pub federate_name : ℕ → List ℕ
federate_name f = codes "f" ++ decimal f

abbrev pub group_name : ℕ → List ℕ
group_name g = codes "g" ++ decimal g

-- the federates stand in a ring: the next one and the third after it are the members of a group
abbrev pub members_of : ℕ → ℕ → ℕ
members_of count g = 2 ^ ((g + 1) % count) + 2 ^ ((g + 3) % count)

abbrev pub group_of : ℕ → ℕ → Group
group_of count g = record { name = group_name g; members = members_of count g }

abbrev pub lookahead_of : ℕ → ℕ → ℕ
lookahead_of seed f = 1 + pick seed (100 + f) 5

-- those of even numbers ask by Time Advance Request, and the others by Next Event Request
abbrev pub advance_of : ℕ → ℕ → Wish
advance_of seed f = if (f % 2 == 0) then wish.Tar (1 + pick seed (200 + f) 9) else wish.Ner (5 + pick seed (300 + f) 20)

-- how long after a grant the Event is timed that is sent at it
abbrev pub delay_of : ℕ → ℕ → ℕ
delay_of seed f = lookahead_of seed f + pick seed (400 + f) 4

abbrev pub variable_of : List ℕ → variable.Var
variable_of name = record { name = name; value = 0 }

-- the sum of what came, a count of what came to the group of the third before, and the number of the last send
abbrev pub variables : List variable.Var
variables = variable_of (codes "sum") ∷ variable_of (codes "hits") ∷ variable_of (codes "last") ∷ []

-- their places
abbrev pub sum : ℕ
sum = 0

abbrev pub hits : ℕ
hits = 1

abbrev pub last : ℕ
last = 2

-- a rule on an Event of this group
abbrev pub on_got : ℕ → List Cond → List Action → Rule
on_got g conds actions = record { on = Got g; conds = conds; actions = actions }

abbrev pub three_hits : Cond
three_hits = record { left = Var hits; test = Ge; right = Num 3 }

-- what comes to the group of the federate before is added up
abbrev pub sum_rule : ℕ → ℕ → Rule
sum_rule count f = on_got ((f + count - 1) % count) [] (Add sum Value ∷ [])

-- what comes to the group of the third before is added up, and counted
abbrev pub hit_rule : ℕ → ℕ → Rule
hit_rule count f = on_got ((f + count - 3) % count) [] (Add sum Value ∷ Add hits (Num 1) ∷ [])

-- the third that is counted takes the last send back, and counting begins anew
abbrev pub retract_rule : ℕ → ℕ → Rule
retract_rule count f = on_got ((f + count - 3) % count) (three_hits ∷ []) (Retract last ∷ Set hits (Num 0) ∷ [])

-- at each grant its time is sent to the federate's own group
abbrev pub send_rule : ℕ → ℕ → Rule
send_rule seed f = record { on = Grant; conds = []; actions = Send f (delay_of seed f) Now (Some last) ∷ [] }

abbrev pub rules_of : ℕ → ℕ → ℕ → List Rule
rules_of seed count f = sum_rule count f ∷ hit_rule count f ∷ retract_rule count f ∷ send_rule seed f ∷ []

abbrev pub federate_of : ℕ → ℕ → ℕ → Federate
federate_of seed count f = record { name = federate_name f; lookahead = Some (lookahead_of seed f); advance = advance_of seed f; vars = variables; rules = rules_of seed count f }

-- a federation of so many federates, each with a group
abbrev pub parts_of : ℕ → ℕ → Parts
parts_of seed count = record {
  end = 2000;
  buffers = 32;
  groups = map (group_of count) (range_with_len 0 count);
  federates = map (federate_of seed count) (range_with_len 0 count);
}

-- the federation of a number, of which the last 32 bits count
unfoldable pub generated : ℕ → Parts
generated number = let seed = number % 2 ^ 32 in parts_of seed (federate_count seed)
