-- Each place of a file takes all that is within its limit.
use Rattle.std.specs.Prelude.{◌≡◌, ◌≢◌, ℕ, ◌+◌, ◌^◌, ◌<◌, ◌≤◌, List, [], length, Bool, true, false, Some, None, Result, Ok, option_and_then, codes, All}
use Rattle.serde_json.specs.Data.{Data, Items}
use Rattle.serde_json.specs.Find.{get, as_array, as_str}
use Rattle.kit_rules.specs.declared.table.Var.{Var}
use Rattle.kit_rules.specs.declared.table.Wish.TheVariants as wish
use Rattle.kit_rules.specs.declared.table.Operand.TheVariants as operand
use Rattle.kit_rules.specs.declared.table.Action.TheVariants as action
use Rattle.kit_rules.specs.Limits.{most_time, most_buffers, most_federates, most_groups, most_vars, most_rules, most_conds, most_actions}
use Rattle.kit_rules.specs.Names.{IsName}
use Rattle.kit_rules.specs.Federation.{IsStep}
use Rattle.kit_regions.specs.Limits.{most_updates, most_subscriptions}
use Rattle.kit_walk.specs.declared.fault.Fault.{Fault}
use Rattle.kit_walk.specs.Places.{data_of}
use Rattle.kit_file.specs.Names.{itself, var_name, group_name, update_name, name, fresh}
use Rattle.kit_file.specs.Lookaheads.{lookahead_if}
use Rattle.kit_file.specs.Operands.{operand_in}
use Rattle.kit_file.specs.Variables.{value_of, var_list_of}
use Rattle.kit_file.specs.Actions.{delay_of, tar_of, ner_of, action_list_of}
use Rattle.kit_file.specs.Rules.{cond_list_of, rule_list_of}
use Rattle.kit_file.specs.Groups.{member_list_of, group_list_of}
use Rattle.kit_file.specs.Regions.{from_of, to_of, region_list_of}
use Rattle.kit_file.specs.Subscribers.{subscriber_list_of}
use Rattle.kit_file.specs.Federates.{request_of}
use Rattle.kit_file.specs.Walk.{version_of, end_of, buffers_of, federate_list_of}
use Rattle.kit_file.specs.Laws.{number_under}

-- a place takes each number under its key that keeps a limit, and makes this of it
abbrev pub TakesNumbers : {X : Type 0} → List ℕ → (ℕ → Type 0) → (ℕ → X) → (Data → Result X Fault) → Type 0
TakesNumbers key Limit made place = (d : Data) (n : ℕ) → number_under key d ≡ Some n → Limit n → place d ≡ Ok (made n)

-- a place takes each list under its key whose length keeps a limit
abbrev pub TakesLists : List ℕ → (ℕ → Type 0) → (Data → Result (List Data) Fault) → Type 0
TakesLists key Limit place = (d : Data) (ds : Items) → option_and_then as_array (get key d) ≡ Some ds → Limit (length (data_of ds)) → place d ≡ Ok (data_of ds)

-- a list that may be absent is then empty
abbrev pub TakesNone : List ℕ → (Data → Result (List Data) Fault) → Type 0
TakesNone key place = (d : Data) → get key d ≡ None → place d ≡ Ok []

-- a name that none before has is taken
abbrev pub TakesNewNames : {X : Type 0} → (X → List ℕ) → Type 0
TakesNewNames {X} name_of = (done : List X) (key s : List ℕ) → All (λ x. name_of x ≢ s) done → fresh name_of done key s ≡ Ok s

-- a number of 32 bits
abbrev pub IsWord : ℕ → Type 0
IsWord n = n < 2 ^ 32

-- the numbers: of the file, of a range, of a federate, of a variable, of an operand and of an action
pub record NumbersAreTaken : Type 0 where
  pub version : TakesNumbers (codes "version") (λ n. (1 ≤ n) × (n ≤ 3)) (λ n. n) version_of
  pub end : TakesNumbers (codes "end") IsStep (λ n. n) end_of
  pub buffers : TakesNumbers (codes "buffers") (λ n. (1 ≤ n) × (n ≤ most_buffers)) (λ n. n) buffers_of
  pub from : TakesNumbers (codes "from") (λ n. IsWord (n + 1)) (λ n. n) from_of
  pub to : (from : ℕ) → TakesNumbers (codes "to") (λ n. (from < n) × IsWord n) (λ n. n) (to_of from)
  pub lookahead : TakesNumbers (codes "lookahead") IsStep (λ n. Some n) (lookahead_if true)
  pub tar_advance : (ner : Bool) → TakesNumbers (codes "tar") IsStep (λ n. wish.Tar n) (request_of true ner)
  pub ner_advance : TakesNumbers (codes "ner") IsStep (λ n. wish.Ner n) (request_of false true)
  pub value : TakesNumbers (codes "value") IsWord (λ n. n) value_of
  pub operand : (key : List ℕ) (vars : List Var) → TakesNumbers key IsWord (λ n. operand.Num n) (λ d. operand_in key vars d None)
  pub delay : (least : ℕ) → TakesNumbers (codes "delay") (λ n. (least ≤ n) × (n ≤ most_time)) (λ n. n) (delay_of least)
  pub tar : TakesNumbers (codes "tar") IsStep (λ n. action.Tar n) tar_of
  pub ner : TakesNumbers (codes "ner") IsStep (λ n. action.Ner n) ner_of

-- the lists, by their lengths
pub record ListsAreTaken : Type 0 where
  pub federates : TakesLists (codes "federates") (λ n. (1 ≤ n) × (n ≤ most_federates)) federate_list_of
  pub groups : TakesLists (codes "groups") (λ n. n ≤ most_groups) group_list_of
  pub no_groups : TakesNone (codes "groups") group_list_of
  pub members : TakesLists (codes "members") (λ n. n ≤ most_federates) member_list_of
  pub subscribers : TakesLists (codes "subscribers") (λ n. n ≤ most_subscriptions) subscriber_list_of
  pub regions : TakesLists (codes "regions") (λ n. n ≤ most_updates) region_list_of
  pub no_regions : TakesNone (codes "regions") region_list_of
  pub vars : TakesLists (codes "vars") (λ n. n ≤ most_vars) var_list_of
  pub no_vars : TakesNone (codes "vars") var_list_of
  pub rules : TakesLists (codes "rules") (λ n. n ≤ most_rules) rule_list_of
  pub no_rules : TakesNone (codes "rules") rule_list_of
  pub conds : TakesLists (codes "if") (λ n. n ≤ most_conds) cond_list_of
  pub no_conds : TakesNone (codes "if") cond_list_of
  pub actions : TakesLists (codes "do") (λ n. n ≤ most_actions) action_list_of

-- the names: each text of their form, where none before is the same
pub record NamesAreTaken : Type 0 where
  pub form : (key : List ℕ) (d : Data) (s : List ℕ) → option_and_then as_str (get key d) ≡ Some s → IsName s → name key d ≡ Ok s
  pub federates : TakesNewNames itself
  pub groups : TakesNewNames group_name
  pub regions : TakesNewNames update_name
  pub vars : TakesNewNames var_name
