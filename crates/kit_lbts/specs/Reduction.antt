-- How the shares of a round come together, in either scheme: what each register of a round stands for, which a
-- federate publishes, and which it takes in.
use Rattle.std.specs.Prelude.{◌==◌, ℕ, ◌+◌, ◌-◌, ◌*◌, ◌%◌, nat_lt, Bool, ◌&&◌, ◌||◌, not, if◌then◌else◌, List, [], ◌∷◌, ◌++◌, length, map, filter, fold, take, slice_get, Option}
use Rattle.std.specs.List.{range_with_len}
use Rattle.kit_ground.specs.declared.address.Reg.{Reg}
use Rattle.kit_model.specs.declared.share.Share.{Share}
use Rattle.kit_model.specs.Blocks.{stages, width, partner_of, in_block, everybody, stage_value, round_result}
use Rattle.kit_model.specs.Shares.{share_sum}
use Rattle.kit_lbts.specs.declared.view.Scheme.{Scheme}
use Rattle.kit_lbts.specs.declared.view.Scheme.TheVariants.{Flat, Butterfly}

-- a place among the registers of a round: the stages 0 to 3, the own share, and the result that is handed back
-- to an outer federate
abbrev pub share_stage : ℕ
share_stage = 4

abbrev pub back_stage : ℕ
back_stage = 5

-- the register of such a place, in a round of this number
abbrev pub reg_of : ℕ → ℕ → ℕ → Reg
reg_of owner stage round = record { owner = owner; slot = round % 2 * 6 + stage }

-- what it stands for, by what each contributed
abbrev pub value_at : ℕ → (ℕ → Share) → ℕ → ℕ → Share
value_at n share owner stage =
    if stage == share_stage then share owner else if stage == back_stage then round_result n share else stage_value n share stage owner

-- whether it takes in the contribution of the federate j
abbrev pub takes_in : ℕ → ℕ → ℕ → ℕ → Bool
takes_in n owner stage j =
    if stage == share_stage then j == owner else if stage == back_stage then nat_lt j n else in_block n stage owner j

-- whether x stands outside the butterfly, and whether another stands outside for x
abbrev pub is_outer : ℕ → ℕ → Bool
is_outer n x = not (nat_lt x (width n))

abbrev pub has_outer : ℕ → ℕ → Bool
has_outer n x = nat_lt x (width n) && nat_lt (width n + x) n

-- which places a federate publishes: its own share always; within the butterfly stage 0, each stage before the
-- last, and the result for the outer federate
abbrev pub publishes : Scheme → ℕ → ℕ → ℕ → Bool
publishes Flat n x stage = stage == share_stage
publishes Butterfly n x stage =
    stage == share_stage || (stage == back_stage && has_outer n x)
    || (nat_lt stage share_stage && not (is_outer n x) && (stage == 0 || nat_lt stage (stages n)))

-- a place that is taken in
pub record Source : Type 0 where
  pub owner : ℕ
  pub stage : ℕ

abbrev pub source : ℕ → ℕ → Source
source owner stage = record { owner = owner; stage = stage }

-- which places x takes in, in order
abbrev pub sources : Scheme → ℕ → ℕ → List Source
sources Flat n x = map (λ j. source j share_stage) (filter (λ j. not (j == x)) (everybody n))
sources Butterfly n x =
    if is_outer n x then source (x - width n) back_stage ∷ []
    else (if has_outer n x then source (width n + x) share_stage ∷ [] else []) ++ map (λ s. source (partner_of s x) s) (range_with_len 0 (stages n))

-- the next one, where this many were taken in
abbrev pub next_source : Scheme → ℕ → ℕ → ℕ → Option Source
next_source scheme n x taken = slice_get (sources scheme n x) taken

-- what x has, by its own share and those taken in: all together, or what was handed back
abbrev pub handed_back : Share → List Share → Share
handed_back own [] = own
handed_back own (s ∷ ss) = s

abbrev pub share_with_taken : Scheme → ℕ → ℕ → Share → List Share → Share
share_with_taken Flat n x own taken = fold share_sum own taken
share_with_taken Butterfly n x own taken = if is_outer n x then handed_back own taken else fold share_sum own taken

-- how many are taken in before a stage's value is there: none for the own share, all for the result
abbrev pub shares_needed : Scheme → ℕ → ℕ → ℕ → ℕ
shares_needed scheme n x stage =
    if stage == share_stage then 0
    else if stage == back_stage then length (sources scheme n x) else stage + (if has_outer n x then 1 else 0)

-- the share that x publishes at a place
abbrev pub published_share : Scheme → ℕ → ℕ → Share → List Share → ℕ → Share
published_share scheme n x own taken stage = share_with_taken scheme n x own (take (shares_needed scheme n x stage) taken)
