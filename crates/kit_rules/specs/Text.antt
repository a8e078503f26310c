-- The texts of a history and of needs.
use Rattle.std.specs.Prelude.{ℕ, nat_le, Bool, if◌then◌else◌, List, [], ◌∷◌, ◌++◌, codes, decimal}
use Rattle.std.specs.List.{flat_map, list_all}
use Rattle.kit_base.specs.declared.message.Message.{Message}
use Rattle.kit_base.specs.declared.history.Line.{Line}
use Rattle.kit_base.specs.declared.history.Line.TheVariants.{Deliver, Grant}
use Rattle.kit_rules.specs.declared.table.Var.{Var}
use Rattle.kit_rules.specs.declared.table.Federate.{Federate}
use Rattle.kit_rules.specs.Parts.{Parts, federate_at, group_at}
use Rattle.kit_rules.specs.Need.{needs_of}
use Rattle.kit_rules.specs.Simulation.{lines_of, closing_vars, simulation}

-- where a message comes from
abbrev pub origin_text : Parts → Message → List ℕ
origin_text p m = (group_at p m.group).name ++ codes " " ++ (federate_at p m.sender).name ++ codes "#" ++ decimal m.number

-- its time and value, to the end of the line
abbrev pub value_text : Message → List ℕ
value_text m = codes " @" ++ decimal m.time ++ codes " = " ++ decimal m.value ++ codes "\n"

-- a delivery or a grant
abbrev pub line_text : Parts → Line → List ℕ
line_text p (Deliver d i m) = decimal d ++ codes " " ++ (federate_at p i).name ++ codes " got " ++ origin_text p m ++ value_text m
line_text p (Grant t i) = decimal t ++ codes " " ++ (federate_at p i).name ++ codes " grant\n"

-- a variable, with the first of these values
abbrev pub vars_text : List Var → List ℕ → List ℕ
vars_text [] values = []
vars_text (v ∷ vs) [] = []
vars_text (v ∷ vs) (x ∷ xs) = codes " " ++ v.name ++ codes "=" ++ decimal x ++ vars_text vs xs

-- a federate with its closing variables
abbrev pub closing_text : Federate → List ℕ → List ℕ
closing_text f values = codes "end " ++ f.name ++ vars_text f.vars values ++ codes "\n"

-- each federate with its closing variables
abbrev pub closings_text : List Federate → List (List ℕ) → List ℕ
closings_text [] vars = []
closings_text (f ∷ fs) [] = []
closings_text (f ∷ fs) (v ∷ vs) = closing_text f v ++ closings_text fs vs

-- the text of a history: its lines, and then the closing variables
abbrev pub history_text : Parts → List Line → List (List ℕ) → List ℕ
history_text p lines vars = flat_map (line_text p) lines ++ closings_text p.federates vars

-- the text of the sequential simulation
abbrev pub simulation_text : Parts → List ℕ
simulation_text p = history_text p (lines_of (simulation p).blocks) (closing_vars (simulation p))

-- how many buffers a federate needs
abbrev pub need_line : Federate → ℕ → List ℕ
need_line f need = codes "need " ++ f.name ++ codes " " ++ decimal need ++ codes "\n"

-- how many each federate needs
abbrev pub need_lines : List Federate → List ℕ → List ℕ
need_lines [] needs = []
need_lines (f ∷ fs) [] = []
need_lines (f ∷ fs) (n ∷ ns) = need_line f n ++ need_lines fs ns

-- whether so many buffers are at least every need
abbrev pub are_enough : ℕ → List ℕ → Bool
are_enough buffers needs = list_all (λ n. nat_le n buffers) needs

-- how many buffers each federate has, and whether that is enough
abbrev pub buffers_line : ℕ → Bool → List ℕ
buffers_line buffers enough = codes "buffers " ++ decimal buffers ++ (if enough then codes " enough\n" else codes " short\n")

-- the text of these needs
abbrev pub need_text : Parts → List ℕ → List ℕ
need_text p needs = need_lines p.federates needs ++ buffers_line p.buffers (are_enough p.buffers needs)

-- the text of the needs of a federation
abbrev pub check_text : Parts → List ℕ
check_text p = need_text p (needs_of p)
