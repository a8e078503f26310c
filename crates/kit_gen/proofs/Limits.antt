-- What the generator makes keeps the limits of a federation.
use Rattle.std.proofs.Common.{◌≡◌, ◌≢◌, ℕ, ◌+◌, ◌-◌, ◌*◌, ◌/◌, ◌%◌, ◌^◌, ◌<◌, ◌≤◌, List, [], ◌∷◌, map, length, Bool, true, false, ◌==◌, sym, ap, refl, subst, get_or, drop, codes, decimal, if◌then◌else◌, Some, arith}
use Rattle.std.specs.Fmt.{digits}
use Rattle.std.specs.List.{range_with_len, list_all}
use Rattle.std.proofs.lemmas.Nat.{mod_below}
use Rattle.std.proofs.lemmas.Fmt.{decimal_injective}
use Rattle.std.proofs.lemmas.List.Elements.{All-nil, All-cons}
use Rattle.std.proofs.lemmas.List.Kept.{AllPairs-cons}
use Rattle.std.proofs.lemmas.List.FromFn.{length-map-range_with_len}
use Rattle.kit_rules.specs.declared.table.Wish.TheVariants as wish
use Rattle.kit_rules.specs.declared.table.Var as variable
use Rattle.kit_rules.specs.declared.table.Action.{Action}
use Rattle.kit_rules.specs.declared.table.Action.TheVariants.{Set, Add, Send, Retract}
use Rattle.kit_rules.specs.declared.table.Operand.TheVariants.{Num, Now, Value}
use Rattle.kit_rules.specs.declared.table.Cond.{Cond}
use Rattle.kit_rules.specs.declared.table.Group.{Group}
use Rattle.kit_rules.specs.declared.table.Federate.{Federate}
use Rattle.kit_rules.specs.declared.table.Rule.{Rule}
use Rattle.kit_rules.specs.Names.{IsName, is_name}
use Rattle.kit_rules.specs.Federation.{IsStep, IsWish, IsCond, IsAction, IsRule, AreVars, IsFederate, IsGroup, AreGroups, AreFederates, IsFederation}
use Rattle.kit_rules.proofs.NameForms.{names_are_tested_law}
use Rattle.kit_gen.specs.Generator.{pick, federate_count, federate_name, group_name, group_of, lookahead_of, delay_of, variable_of, variables, sum, hits, last, three_hits, sum_rule, hit_rule, retract_rule, send_rule, federate_of, parts_of, generated}
use Rattle.kit_gen.proofs.Made.{passes_in, all_made, names_differ}
use Rattle.kit_gen.proofs.Members.{members_fit}

pub pick_below : (seed a n : ℕ) → 0 < n → pick seed a n < n
pick_below seed a n some = mod_below ((seed + a) % 2 ^ 32 * 2654435761 % 2 ^ 32 / 2 ^ 16) n some

-- a name by its test
named : (s : List ℕ) → is_name s ≡ true → IsName s
named s passes = (names_are_tested_law s).0 passes

-- the names of the first 16 are names, and differ
federate_names : list_all (λ k. is_name (federate_name k)) (range_with_len 0 16) ≡ true
unfolding digits
federate_names = refl

group_names : list_all (λ k. is_name (group_name k)) (range_with_len 0 16) ≡ true
unfolding digits
group_names = refl

numbers_tell : (first i j : ℕ) → i < j → j < 16 → first ∷ decimal i ≢ first ∷ decimal j
numbers_tell first i j before low same =
    let one = decimal_injective i j (omega (arith, before, low)) (omega (arith, low)) (ap (drop 1) same) in absurd (omega (arith, one, before))

-- the variables
first_differs : (s t : List ℕ) → get_or s 0 0 < get_or t 0 0 → s ≢ t
first_differs s t less same = absurd (omega (arith, less, ap (λ l. get_or l 0 0) same))

are_vars : AreVars variables
are_vars = let s = variable_of (codes "sum") in let h = variable_of (codes "hits") in let l = variable_of (codes "last") in
    let Named : variable.Var → Type 0 = λ v. IsName v.name in record {
      few = omega arith;
      names = All-cons Named s (h ∷ l ∷ []) (named (codes "sum") refl) (All-cons Named h (l ∷ []) (named (codes "hits") refl) (All-cons Named l [] (named (codes "last") refl) (All-nil Named)));
      differ = AllPairs-cons (λ a b. a.name ≢ b.name) s (h ∷ l ∷ [])
          (All-cons (λ b. s.name ≢ b.name) h (l ∷ []) (λ e. first_differs h.name s.name (omega arith) (sym e)) (All-cons (λ b. s.name ≢ b.name) l [] (λ e. first_differs l.name s.name (omega arith) (sym e)) (All-nil (λ b. s.name ≢ b.name))))
          (AllPairs-cons (λ a b. a.name ≢ b.name) h (l ∷ []) (All-cons (λ b. h.name ≢ b.name) l [] (first_differs h.name l.name (omega arith)) (All-nil (λ b. h.name ≢ b.name)))
          (AllPairs-cons (λ a b. a.name ≢ b.name) l [] (All-nil (λ b. l.name ≢ b.name)) (λ i j d before short. absurd (omega (arith, short)))));
    }

is_wish : (even : Bool) (a b : ℕ) → IsStep a → IsStep b → IsWish (if even then wish.Tar a else wish.Ner b)
is_wish true a b tar ner = tar
is_wish false a b tar ner = ner

module _ (seed count f : ℕ) (low : 4 ≤ count) (high : count ≤ 16) (at : f < count) where
  abbrev Do : Action → Type 0
  Do = IsAction count 3 (Some (lookahead_of seed f))

  abbrev Test : Cond → Type 0
  Test = IsCond 3

  abbrev Keeps : Rule → Type 0
  Keeps = IsRule count 3 (Some (lookahead_of seed f))

  before : (a : ℕ) → (f + count - a) % count < count
  before a = mod_below (f + count - a) count (omega (arith, low))

  counts_the_first : Keeps (sum_rule count f)
  counts_the_first = record {
    on = before 1;
    few_conds = omega arith;
    conds = All-nil Test;
    few_actions = omega arith;
    actions = All-cons Do (Add sum Value) [] (omega arith, tt) (All-nil Do);
  }

  counts_the_third : Keeps (hit_rule count f)
  counts_the_third = record {
    on = before 3;
    few_conds = omega arith;
    conds = All-nil Test;
    few_actions = omega arith;
    actions = All-cons Do (Add sum Value) (Add hits (Num 1) ∷ []) (omega arith, tt) (All-cons Do (Add hits (Num 1)) [] (omega arith, tt) (All-nil Do));
  }

  takes_back : Keeps (retract_rule count f)
  takes_back = record {
    on = before 3;
    few_conds = omega arith;
    conds = All-cons Test three_hits [] (omega arith, tt) (All-nil Test);
    few_actions = omega arith;
    actions = All-cons Do (Retract last) (Set hits (Num 0) ∷ []) (refl, omega arith) (All-cons Do (Set hits (Num 0)) [] (omega arith, tt) (All-nil Do));
  }

  sends : Keeps (send_rule seed f)
  sends =
      let small : pick seed (100 + f) 5 < 5 = pick_below seed (100 + f) 5 (omega arith) in
      let more : pick seed (400 + f) 4 < 4 = pick_below seed (400 + f) 4 (omega arith) in record {
        on = tt;
        few_conds = omega arith;
        conds = All-nil Test;
        few_actions = omega arith;
        actions = All-cons Do (Send f (delay_of seed f) Now (Some last)) [] (at, omega arith, omega (arith, small, more), tt, omega arith) (All-nil Do);
      }

  is_federate : IsFederate count (federate_of seed count f)
  is_federate = record {
    name = named (federate_name f) (passes_in (λ k. is_name (federate_name k)) 0 16 f federate_names (omega arith) (omega (arith, at, high)));
    lookahead = (omega arith, omega (arith, pick_below seed (100 + f) 5 (omega arith)));
    advance = is_wish (f % 2 == 0) (1 + pick seed (200 + f) 9) (5 + pick seed (300 + f) 20) (omega arith, omega (arith, pick_below seed (200 + f) 9 (omega arith))) (omega arith, omega (arith, pick_below seed (300 + f) 20 (omega arith)));
    vars = are_vars;
    few_rules = omega arith;
    rules = let a = sum_rule count f in let b = hit_rule count f in let c = retract_rule count f in let d = send_rule seed f in
        All-cons Keeps a (b ∷ c ∷ d ∷ []) counts_the_first (All-cons Keeps b (c ∷ d ∷ []) counts_the_third (All-cons Keeps c (d ∷ []) takes_back (All-cons Keeps d [] sends (All-nil Keeps))));
  }

  is_group : IsGroup count (group_of count f)
  is_group = record {
    name = named (group_name f) (passes_in (λ k. is_name (group_name k)) 0 16 f group_names (omega arith) (omega (arith, at, high)));
    members = members_fit count f low high at;
  }

module _ (seed count : ℕ) (low : 4 ≤ count) (high : count ≤ 16) where
  abbrev groups : List Group
  groups = map (group_of count) (range_with_len 0 count)

  abbrev federates : List Federate
  federates = map (federate_of seed count) (range_with_len 0 count)

  many_groups : length groups ≡ count
  many_groups = length-map-range_with_len (group_of count) 0 count

  many_federates : length federates ≡ count
  many_federates = length-map-range_with_len (federate_of seed count) 0 count

  are_groups : AreGroups count groups
  are_groups = record {
    few = omega (arith, many_groups, high);
    each = all_made (group_of count) count (IsGroup count) (λ k at. is_group seed count k low high at);
    differ = names_differ (group_of count) count (λ g. g.name) (λ i j before at. numbers_tell 103 i j before (omega (arith, at, high)));
  }

  are_federates : AreFederates count federates
  are_federates = record {
    count = (omega (arith, many_federates, low), omega (arith, many_federates, high));
    each = all_made (federate_of seed count) count (IsFederate count) (λ k at. is_federate seed count k low high at);
    differ = names_differ (federate_of seed count) count (λ f. f.name) (λ i j before at. numbers_tell 102 i j before (omega (arith, at, high)));
  }

  pub is_federation : IsFederation (parts_of seed count)
  is_federation = record {
    end = (omega arith, omega arith);
    buffers = (omega arith, omega arith);
    groups = subst (λ n. AreGroups n groups) (sym many_federates) are_groups;
    federates = subst (λ n. AreFederates n federates) (sym many_groups) are_federates;
  }

pub generated_is_federation_law : (number : ℕ) → IsFederation (generated number)
unfolding generated
generated_is_federation_law number =
    let seed = number % 2 ^ 32 in let below : pick seed 1 13 < 13 = pick_below seed 1 13 (omega arith) in
    is_federation seed (federate_count seed) (omega arith) (omega (arith, below))

-- the parts as they were made
pub made_is_federation : (seed count : ℕ) (gs : List Group) (fs : List Federate) → 4 ≤ count → count ≤ 16
    → gs ≡ map (group_of count) (range_with_len 0 count) → fs ≡ map (federate_of seed count) (range_with_len 0 count)
    → IsFederation (record { end = 2000; buffers = 32; groups = gs; federates = fs })
made_is_federation seed count gs fs low high gs_are fs_are =
    subst (λ l. IsFederation (record { end = 2000; buffers = 32; groups = l; federates = fs })) (sym gs_are)
    (subst (λ l. IsFederation (record { end = 2000; buffers = 32; groups = map (group_of count) (range_with_len 0 count); federates = l })) (sym fs_are) (is_federation seed count low high))
