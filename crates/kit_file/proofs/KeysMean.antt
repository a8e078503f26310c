-- What the keys of an accepted file say.
use Rattle.std.proofs.Math.Bool.{or-true}
use Rattle.std.proofs.Common.{◌≡◌, ℕ, suc, ◌≤◌, List, [], ◌∷◌, ◌++◌, length, map, Bool, true, false, ◌||◌, Option, Some, None, Result, Ok, Err, codes, nat_lt, refl, sym, ap, subst, ◌∙◌, inl, inr, ◌≢◌, ◌⊎◌, arith}
use Rattle.std.specs.Prelude.{◌==◌, if◌then◌else◌, option_and_then, slice_index_or, unwrap_or}
use Rattle.std.specs.Option.{option_map_or}
use Rattle.std.proofs.lemmas.List.{append_assoc, append-nil, map-append}
use Rattle.std.proofs.lemmas.Bool.{cases_lt, lt-ltb}
use Rattle.std.proofs.lemmas.Bool.Decides.{eqb_tells}
use Rattle.serde_json.specs.Data.{Data, Items}
use Rattle.serde_json.specs.Find.{get, as_bool, as_number, as_u64, as_array}
use Rattle.kit_rules.specs.Parts.{Parts}
use Rattle.kit_rules.specs.declared.table.Group.{Group}
use Rattle.kit_regions.specs.declared.region.Update.{Update}
use Rattle.kit_regions.specs.Plan.{Plan}
use Rattle.kit_regions.specs.Lowered.{lowered_federate, federation_of, crowded_federate}
use Rattle.kit_rules.specs.declared.table.Federate.{Federate}
use Rattle.kit_walk.specs.declared.fault.FaultKind.{FaultKind}
use Rattle.kit_walk.specs.declared.fault.FaultKind.TheVariants as kind
use Rattle.kit_walk.specs.declared.fault.Fault.{Fault}
use Rattle.kit_file.specs.declared.known.Known.{Known}
use Rattle.kit_file.specs.declared.subscribers.Subscribed.{Subscribed}
use Rattle.kit_file.specs.declared.content.Content.{Content}
use Rattle.kit_walk.specs.Paths.{key_path, item_path}
use Rattle.kit_walk.specs.Reading.{◌>>=◌, fault_at, within, or_fault, each}
use Rattle.kit_walk.specs.Places.{object, member, number, list, list_of, data_of}
use Rattle.kit_file.specs.FederateNames.{federate_names_of}
use Rattle.kit_file.specs.Names.{group_name, update_name}
use Rattle.kit_file.specs.Groups.{groups_of}
use Rattle.kit_file.specs.Subscribers.{subscribed_groups_of}
use Rattle.kit_file.specs.Regions.{regions_of}
use Rattle.kit_file.specs.Variables.{vars_of}
use Rattle.kit_file.specs.Rules.{rules_of}
use Rattle.kit_file.specs.Lookaheads.{regulating_in, regulating_of, lookahead_if, lookahead_of}
use Rattle.kit_file.specs.Federates.{advance_of, federates_of, federate_step, federate_of}
use Rattle.kit_file.specs.Walk.{walk, plan_walk, content_of, content_after, federation_in, plan_in, with_plan, without_plan, lowered_where}
use Rattle.kit_file.specs.Laws.{KeysMean, PlansMean, OthersHaveNone, SameFaults, number_under, members_under, says_regulating, lookahead_said}

-- of two steps that gave a value both did
bind_ok : {A B : Type 0} (r : Result A Fault) (f : A → Result B Fault) (y : B) → (r >>= f) ≡ Ok y → (x : A) × (r ≡ Ok x) × (f x ≡ Ok y)
bind_ok (Ok x) f y e = (x, refl, e)
bind_ok (Err d) f y e = absurd (cc)

-- what is seen from further out gave what it gave
within_ok : {A : Type 0} (front : List ℕ) (r : Result A Fault) (x : A) → within front r ≡ Ok x → r ≡ Ok x
within_ok front (Ok x) y e = e
within_ok front (Err f) y e = absurd (cc)

-- a value in its range
in_range : {A : Type 0} (b : Bool) (f : FaultKind) (path : List ℕ) (x y : A) → (if b then fault_at f path else Ok x) ≡ Ok y → (b ≡ false) × (x ≡ y)
in_range true f path x y e = absurd (cc)
in_range false f path x y e = (refl, cc)

-- a number that was read
number_found : (low high : ℕ) (path : List ℕ) (o : Option ℕ) (n : ℕ) → (or_fault kind.WrongKind path o >>= λ m. if nat_lt m low || nat_lt high m then fault_at kind.OutOfRange path else Ok m) ≡ Ok n → (o ≡ Some n) × ((nat_lt n low || nat_lt high n) ≡ false)
number_found low high path None n e = absurd (cc)
number_found low high path (Some m) n e =
    let a = in_range (nat_lt m low || nat_lt high m) kind.OutOfRange path m n e in
    let P : ℕ → Type 0 = λ k. (nat_lt k low || nat_lt high k) ≡ false in
    (ap Some a.1, subst P a.1 a.0)

-- the same, from what stands under the key
number_from : (low high : ℕ) (path : List ℕ) (o : Option Data) (n : ℕ)
    → (or_fault kind.Missing path o >>= λ v. or_fault kind.WrongKind path (option_and_then as_u64 (as_number v)) >>= λ m. if nat_lt m low || nat_lt high m then fault_at kind.OutOfRange path else Ok m) ≡ Ok n
    → (option_and_then as_u64 (option_and_then as_number o) ≡ Some n) × ((nat_lt n low || nat_lt high n) ≡ false)
number_from low high path None n e = absurd (cc)
number_from low high path (Some v) n e = number_found low high path (option_and_then as_u64 (as_number v)) n e

-- what reading a number says
number_says : (key : List ℕ) (low high : ℕ) (d : Data) (n : ℕ) → number key low high d ≡ Ok n → (number_under key d ≡ Some n) × ((nat_lt n low || nat_lt high n) ≡ false)
unfolding number member
number_says key low high d n e = number_from low high (key_path key) (get key d) n e

-- a list that was read
list_found : (low high : ℕ) (path : List ℕ) (o : Option Items) (ds : List Data)
    → (or_fault kind.WrongKind path o >>= λ items. if nat_lt (length (data_of items)) low || nat_lt high (length (data_of items)) then fault_at kind.OutOfRange path else Ok (data_of items)) ≡ Ok ds
    → option_map_or data_of o [] ≡ ds
list_found low high path None ds e = absurd (cc)
list_found low high path (Some items) ds e =
    let a = in_range (nat_lt (length (data_of items)) low || nat_lt high (length (data_of items))) kind.OutOfRange path (data_of items) ds e in
    a.1

-- the same, from what stands under the key
list_from : (low high : ℕ) (key : List ℕ) (o : Option Data) (ds : List Data) → (or_fault kind.Missing (key_path key) o >>= λ v. list_of key low high v) ≡ Ok ds
    → option_map_or data_of (option_and_then as_array o) [] ≡ ds
unfolding list_of
list_from low high key None ds e = absurd (cc)
list_from low high key (Some v) ds e = list_found low high (key_path key) (as_array v) ds e

-- what reading a list says
list_says : (key : List ℕ) (low high : ℕ) (d : Data) (ds : List Data) → list key low high d ≡ Ok ds → members_under key d ≡ ds
unfolding list member
list_says key low high d ds e = list_from low high key (get key d) ds e

-- a step that gave these federates
abbrev gave : List Federate → Result (List Federate) Fault
gave fs = Ok fs

-- gave what they are
ok_same : (x y : List Federate) → gave x ≡ gave y → x ≡ y
ok_same x y e = cc

-- the same of one
abbrev gave_one : Federate → Result Federate Fault
gave_one f = Ok f

one_same : (x y : Federate) → gave_one x ≡ gave_one y → x ≡ y
one_same x y e = cc

-- and of a lookahead
abbrev gave_lookahead : Option ℕ → Result (Option ℕ) Fault
gave_lookahead o = Ok o

-- whether a federate is regulating, from what stands under the key
regulating_from : (o : Option Data) (b : Bool) → regulating_in o ≡ Ok b → unwrap_or (option_and_then as_bool o) true ≡ b
regulating_from None b e = cc
regulating_from (Some v) b e = truth (as_bool v) e
  where
    truth : (o : Option Bool) → or_fault kind.WrongKind (key_path (codes "regulating")) o ≡ Ok b → unwrap_or o true ≡ b
    truth None e = absurd (cc)
    truth (Some x) e = cc

-- and in a file of a version
regulating_says : (version : ℕ) (d : Data) (b : Bool) → regulating_of version d ≡ Ok b → says_regulating version d ≡ b
unfolding regulating_of
regulating_says version d b e =
    elim (version == 1) as (λ t. (if t then Ok true else regulating_in (get (codes "regulating") d)) ≡ Ok b → (t || unwrap_or (option_and_then as_bool (get (codes "regulating") d)) true) ≡ b)
    [ true ↦ λ f. cc | false ↦ λ f. regulating_from (get (codes "regulating") d) b f ] e

-- the lookahead of one that is regulating, or none
lookahead_from : (b : Bool) (d : Data) (l : Option ℕ) → lookahead_if b d ≡ Ok l → (if b then number_under (codes "lookahead") d else None) ≡ l
lookahead_from true d l e =
    let n = bind_ok (number (codes "lookahead") 1 100000 d) (λ k. Ok (Some k)) l e in
    (number_says (codes "lookahead") 1 100000 d n.0 n.1).0 ∙ some_same n.0 l n.2
  where
    some_same : (k : ℕ) (o : Option ℕ) → gave_lookahead (Some k) ≡ Ok o → Some k ≡ o
    some_same k o f = cc
lookahead_from false d l e = cc

-- what reading a lookahead says
lookahead_says : (version : ℕ) (d : Data) (l : Option ℕ) → lookahead_of version d ≡ Ok l → lookahead_said version d ≡ l
unfolding lookahead_of
lookahead_says version d l e =
    let r = bind_ok (regulating_of version d) (λ b. lookahead_if b d) l e in
    ap (λ b. if b then number_under (codes "lookahead") d else None) (regulating_says version d r.0 r.1) ∙ lookahead_from r.0 d l r.2

-- a federate has the lookahead that was read
federate_says : (version : ℕ) (known : Known) (name : List ℕ) (d : Data) (f : Federate) → federate_of version known name d ≡ Ok f → f.lookahead ≡ lookahead_said version d
unfolding federate_of
federate_says version known name d f e =
    let l = bind_ok (lookahead_of version d) (λ l. advance_of d >>= λ a. vars_of d >>= λ vs. rules_of known vs l d >>= λ rs. Ok (record { name = name; lookahead = l; advance = a; vars = vs; rules = rs })) f e in
    let a = bind_ok (advance_of d) (λ a. vars_of d >>= λ vs. rules_of known vs l.0 d >>= λ rs. Ok (record { name = name; lookahead = l.0; advance = a; vars = vs; rules = rs })) f l.2 in
    let v = bind_ok (vars_of d) (λ vs. rules_of known vs l.0 d >>= λ rs. Ok (record { name = name; lookahead = l.0; advance = a.0; vars = vs; rules = rs })) f a.2 in
    let r = bind_ok (rules_of known v.0 l.0 d) (λ rs. Ok (record { name = name; lookahead = l.0; advance = a.0; vars = v.0; rules = rs })) f v.2 in
    sym (ap (λ (g : Federate). g.lookahead) (one_same (record { name = name; lookahead = l.0; advance = a.0; vars = v.0; rules = r.0 }) f r.2)) ∙ sym (lookahead_says version d l.0 l.1)

-- the lookahead of a federate
abbrev lookahead_in : Federate → Option ℕ
lookahead_in f = f.lookahead

-- a federate more
pushed : (done fs : List Federate) (r : Result Federate Fault) → (r >>= λ f. Ok (done ++ f ∷ [])) ≡ Ok fs → (f : Federate) × (r ≡ Ok f) × (done ++ f ∷ [] ≡ fs)
pushed done fs (Ok f) e = (f, refl, ok_same (done ++ f ∷ []) fs e)
pushed done fs (Err x) e = absurd (cc)

-- one federate for each member, with the lookahead that it says
one_more : (version : ℕ) (names : List (List ℕ)) (known : Known) (i : ℕ) (done fs : List Federate) (d : Data) → federate_step version names known i done d ≡ Ok fs → map lookahead_in fs ≡ map lookahead_in done ++ lookahead_said version d ∷ []
unfolding federate_step
one_more version names known i done fs d e =
    let read = federate_of version known (slice_index_or names i []) d in
    let f = pushed done fs (within (item_path (codes "federates") i) read) e in
    ap (map lookahead_in) (sym f.2) ∙ map-append lookahead_in done (f.0 ∷ [])
    ∙ ap (λ l. map lookahead_in done ++ l ∷ []) (federate_says version known (slice_index_or names i []) d f.0 (within_ok (item_path (codes "federates") i) read f.0 f.1))

-- and so for all
one_each : (version : ℕ) (names : List (List ℕ)) (known : Known) (i : ℕ) (done fs : List Federate) (ds : List Data) → each (federate_step version names known) i done ds ≡ Ok fs
    → map lookahead_in fs ≡ map lookahead_in done ++ map (lookahead_said version) ds
one_each version names known i done fs [] e = ap (map lookahead_in) (sym (ok_same done fs e)) ∙ sym (append-nil (map lookahead_in done))
one_each version names known i done fs (d ∷ ds) e =
    let b = bind_ok (federate_step version names known i done d) (λ t. each (federate_step version names known) (suc i) t ds) fs e in
    one_each version names known (suc i) b.0 fs ds b.2
    ∙ ap (λ ls. ls ++ map (lookahead_said version) ds) (one_more version names known i done b.0 d b.1)
    ∙ append_assoc (map lookahead_in done) (lookahead_said version d ∷ []) (map (lookahead_said version) ds)

-- the parts of a federation that was read
abbrev PartsSay : ℕ → ℕ → ℕ → List Data → Parts → Type 0
PartsSay version end buffers ds p = (p.end ≡ end) × (p.buffers ≡ buffers) × (map lookahead_in p.federates ≡ map (lookahead_said version) ds)

-- what a file of version 1 or 2 gives
abbrev answer : ℕ → ℕ → List Group → List Federate → Result Parts Fault
answer end buffers groups federates = Ok (record { end = end; buffers = buffers; groups = groups; federates = federates })

-- its parts
parts_are : (end buffers : ℕ) (groups : List Group) (federates : List Federate) (p : Parts) → answer end buffers groups federates ≡ Ok p → (p.end ≡ end) × (p.buffers ≡ buffers) × (p.federates ≡ federates)
parts_are end buffers groups federates p e =
    let same : record { end = end; buffers = buffers; groups = groups; federates = federates } ≡ p = cc in
    (sym (ap (λ (q : Parts). q.end) same), sym (ap (λ (q : Parts). q.buffers) same), sym (ap (λ (q : Parts). q.federates) same))

-- what its rules may name
abbrev known_of : List Group → Known
known_of groups = record { groups = map group_name groups; targets = map group_name groups }

federation_says : (version end buffers : ℕ) (names : List (List ℕ)) (ds : List Data) (d : Data) (p : Parts) → federation_in version end buffers names ds d ≡ Ok p → PartsSay version end buffers ds p
unfolding federation_in federates_of
federation_says version end buffers names ds d p e =
    let g = bind_ok (groups_of names d) (λ groups. federates_of version names (known_of groups) ds >>= λ federates. answer end buffers groups federates) p e in
    let f = bind_ok (federates_of version names (known_of g.0) ds) (λ federates. answer end buffers g.0 federates) p g.2 in
    let is = parts_are end buffers g.0 f.0 p f.2 in
    (is.0, is.1, ap (map lookahead_in) is.2 ∙ one_each version names (known_of g.0) 0 [] f.0 ds f.1)

-- what a file of version 3 gives
abbrev plan_answer : ℕ → ℕ → Subscribed → List Update → List Federate → Result Plan Fault
plan_answer end buffers s updates federates = Ok (record { end = end; buffers = buffers; groups = s.groups; updates = updates; subscriptions = s.subscriptions; federates = federates })

-- its parts
plan_parts_are : (end buffers : ℕ) (s : Subscribed) (updates : List Update) (federates : List Federate) (p : Plan) → plan_answer end buffers s updates federates ≡ Ok p → (p.end ≡ end) × (p.buffers ≡ buffers) × (p.federates ≡ federates)
plan_parts_are end buffers s updates federates p e =
    let same : record { end = end; buffers = buffers; groups = s.groups; updates = updates; subscriptions = s.subscriptions; federates = federates } ≡ p = cc in
    (sym (ap (λ (q : Plan). q.end) same), sym (ap (λ (q : Plan). q.buffers) same), sym (ap (λ (q : Plan). q.federates) same))

-- what its rules may name
abbrev known_with : Subscribed → List Update → Known
known_with s updates = record { groups = s.groups; targets = map update_name updates }

plan_says : (end buffers : ℕ) (names : List (List ℕ)) (ds : List Data) (d : Data) (p : Plan) → plan_in end buffers names ds d ≡ Ok p → (p.end ≡ end) × (p.buffers ≡ buffers) × (map lookahead_in p.federates ≡ map (lookahead_said 3) ds)
unfolding plan_in federates_of
plan_says end buffers names ds d p e =
    let s = bind_ok (subscribed_groups_of names d) (λ s. regions_of s.groups d >>= λ us. federates_of 3 names (known_with s us) ds >>= λ fs. plan_answer end buffers s us fs) p e in
    let u = bind_ok (regions_of s.0.groups d) (λ us. federates_of 3 names (known_with s.0 us) ds >>= λ fs. plan_answer end buffers s.0 us fs) p s.2 in
    let f = bind_ok (federates_of 3 names (known_with s.0 u.0) ds) (λ fs. plan_answer end buffers s.0 u.0 fs) p u.2 in
    let is = plan_parts_are end buffers s.0 u.0 f.0 p f.2 in
    (is.0, is.1, ap (map lookahead_in) is.2 ∙ one_each 3 names (known_with s.0 u.0) 0 [] f.0 ds f.1)

-- lowering keeps lookaheads
lowered_lookaheads : (updates : List Update) (fs : List Federate) → map lookahead_in (map (lowered_federate updates) fs) ≡ map lookahead_in fs
lowered_lookaheads updates [] = refl
lowered_lookaheads updates (f ∷ fs) = ap (λ ls. f.lookahead ∷ ls) (lowered_lookaheads updates fs)

-- a step that gave this content
abbrev gave_content : Content → Result Content Fault
gave_content c = Ok c

content_same : (b c : Content) → gave_content b ≡ Ok c → b ≡ c
content_same b c e = cc

-- a plan with its federation
with_plan_says : (plan : Plan) (c : Content) → with_plan plan ≡ Ok c → (c.federation ≡ federation_of plan) × (c.plan ≡ Some plan) × (crowded_federate plan ≡ None)
unfolding with_plan
with_plan_says plan c e = from (crowded_federate plan) e
  where
    from : (o : Option ℕ) → (lowered_where plan o >>= λ p. gave_content (record { federation = p; plan = Some plan })) ≡ Ok c → (c.federation ≡ federation_of plan) × (c.plan ≡ Some plan) × (o ≡ None)
    from None e =
        let same = content_same (record { federation = federation_of plan; plan = Some plan }) c e in
        (sym (ap (λ (x : Content). x.federation) same), sym (ap (λ (x : Content). x.plan) same), refl)
    from (Some i) e = absurd (cc)

-- what the version makes of a file: a plan with its federation, or a federation alone
abbrev IsPlanned : ℕ → Content → Type 0
IsPlanned version c = (plan : Plan) × (version ≡ 3) × (c.federation ≡ federation_of plan) × (c.plan ≡ Some plan) × (crowded_federate plan ≡ None)

abbrev IsUnplanned : ℕ → Content → Type 0
IsUnplanned version c = (version ≢ 3) × (c.plan ≡ None)

abbrev AfterSays : ℕ → ℕ → ℕ → List Data → Content → Type 0
AfterSays version end buffers ds c = PartsSay version end buffers ds c.federation × (IsPlanned version c ⊎ IsUnplanned version c)

planned_says : (version end buffers : ℕ) (names : List (List ℕ)) (ds : List Data) (d : Data) (c : Content) → version ≡ 3 → (plan_in end buffers names ds d >>= λ plan. with_plan plan) ≡ Ok c → AfterSays version end buffers ds c
planned_says version end buffers names ds d c is e =
    let p = bind_ok (plan_in end buffers names ds d) (λ plan. with_plan plan) c e in
    let w = with_plan_says p.0 c p.2 in
    let s = plan_says end buffers names ds d p.0 p.1 in (
      (
        ap (λ (q : Parts). q.end) w.0 ∙ s.0,
        ap (λ (q : Parts). q.buffers) w.0 ∙ s.1,
        ap (λ (q : Parts). map lookahead_in q.federates) w.0 ∙ lowered_lookaheads p.0.updates p.0.federates ∙ s.2 ∙ ap (λ v. map (lookahead_said v) ds) (sym is),
      ),
      inl (p.0, is, w.0, w.1, w.2),
    )

unplanned_says : (version end buffers : ℕ) (names : List (List ℕ)) (ds : List Data) (d : Data) (c : Content) → version ≢ 3 → (federation_in version end buffers names ds d >>= λ p. gave_content (without_plan p)) ≡ Ok c → AfterSays version end buffers ds c
unplanned_says version end buffers names ds d c is e =
    let p = bind_ok (federation_in version end buffers names ds d) (λ p. gave_content (without_plan p)) c e in
    let same = content_same (without_plan p.0) c p.2 in (
      subst (λ (x : Content). PartsSay version end buffers ds x.federation) same (federation_says version end buffers names ds d p.0 p.1),
      inr (is, sym (ap (λ (x : Content). x.plan) same)),
    )

after_says : (version end buffers : ℕ) (names : List (List ℕ)) (ds : List Data) (d : Data) (c : Content) → content_after version end buffers names ds d ≡ Ok c → AfterSays version end buffers ds c
unfolding content_after
after_says version end buffers names ds d c e =
    elim (eqb_tells version 3) [
      | inl is ↦ planned_says version end buffers names ds d c is.1 (sym (ap (λ b. if b then (plan_in end buffers names ds d >>= λ plan. with_plan plan) else (federation_in version end buffers names ds d >>= λ p. gave_content (without_plan p))) is.0) ∙ e)
      | inr is ↦ unplanned_says version end buffers names ds d c is.1 (sym (ap (λ b. if b then (plan_in end buffers names ds d >>= λ plan. with_plan plan) else (federation_in version end buffers names ds d >>= λ p. gave_content (without_plan p))) is.0) ∙ e)
    ]

-- the rest of the walk after each place
abbrev after_list : Data → ℕ → ℕ → ℕ → List Data → Result Content Fault
after_list d version end buffers ds = federate_names_of ds >>= λ names. content_after version end buffers names ds d

abbrev after_buffers : Data → ℕ → ℕ → ℕ → Result Content Fault
after_buffers d version end buffers = list (codes "federates") 1 16 d >>= λ ds. after_list d version end buffers ds

abbrev after_end : Data → ℕ → ℕ → Result Content Fault
after_end d version end = number (codes "buffers") 1 1024 d >>= λ buffers. after_buffers d version end buffers

abbrev after_version : Data → ℕ → Result Content Fault
after_version d version = number (codes "end") 1 100000 d >>= λ end. after_end d version end

abbrev after_object : Data → Unit {0} → Result Content Fault
after_object d u = number (codes "version") 1 3 d >>= λ version. after_version d version

-- a number that is not outside a range is within it
within_range : (low high n : ℕ) → (nat_lt n low || nat_lt high n) ≡ false → (low ≤ n) × (n ≤ high)
within_range low high n e =
    elim (cases_lt n low) [
      | inl lt ↦ (let t : true ≡ false = sym (ap (λ b. b || nat_lt high n) (lt-ltb n low lt)) ∙ e in absurd (cc))
      | inr ge ↦ elim (cases_lt high n) [
        | inl lt ↦ (let t : true ≡ false = sym (ap (λ b. nat_lt n low || b) (lt-ltb high n lt) ∙ or-true (nat_lt n low)) ∙ e in absurd (cc))
        | inr le ↦ (ge, le)
      ]
    ]

-- what a file says, as its keys say it
record ContentSays (d : Data) (c : Content) : Type 0 where
  version : ℕ
  known : (1 ≤ version) × (version ≤ 3)
  said : number_under (codes "version") d ≡ Some version
  end : number_under (codes "end") d ≡ Some c.federation.end
  buffers : number_under (codes "buffers") d ≡ Some c.federation.buffers
  lookaheads : map lookahead_in c.federation.federates ≡ map (lookahead_said version) (members_under (codes "federates") d)
  kind : IsPlanned version c ⊎ IsUnplanned version c

-- place by place
content_says : (d : Data) (c : Content) → content_of d ≡ Ok c → ContentSays d c
unfolding content_of
content_says d c e =
    let o = bind_ok (object d) (after_object d) c e in
    let v = bind_ok (number (codes "version") 1 3 d) (after_version d) c o.2 in
    let n = bind_ok (number (codes "end") 1 100000 d) (after_end d v.0) c v.2 in
    let b = bind_ok (number (codes "buffers") 1 1024 d) (after_buffers d v.0 n.0) c n.2 in
    let l = bind_ok (list (codes "federates") 1 16 d) (after_list d v.0 n.0 b.0) c b.2 in
    let m = bind_ok (federate_names_of l.0) (λ names. content_after v.0 n.0 b.0 names l.0 d) c l.2 in
    let is = after_says v.0 n.0 b.0 m.0 l.0 d c m.2 in
    let version = number_says (codes "version") 1 3 d v.0 v.1 in
    record {
      version = v.0;
      known = within_range 1 3 v.0 version.1;
      said = version.0;
      end = (number_says (codes "end") 1 100000 d n.0 n.1).0 ∙ ap Some (sym is.0.0);
      buffers = (number_says (codes "buffers") 1 1024 d b.0 b.1).0 ∙ ap Some (sym is.0.1);
      lookaheads = is.0.2 ∙ ap (map (lookahead_said v.0)) (sym (list_says (codes "federates") 1 16 d l.0 l.1));
      kind = is.1;
    }

-- a part of what was read
part_ok : {X : Type 0} (part : Content → X) (r : Result Content Fault) (x : X) → (r >>= λ c. Ok (part c)) ≡ Ok x → (c : Content) × (r ≡ Ok c) × (part c ≡ x)
part_ok {X} part r x e =
    let c = bind_ok r (λ c. Ok (part c)) x e in
    (c.0, c.1, same (part c.0) x c.2)
  where
    gave_part : X → Result X Fault
    gave_part y = Ok y

    same : (y z : X) → gave_part y ≡ Ok z → y ≡ z
    same y z e = cc

walk_says : (d : Data) (p : Parts) → walk d ≡ Ok p → (c : Content) × (content_of d ≡ Ok c) × (c.federation ≡ p)
unfolding walk
walk_says d p e = part_ok (λ c. c.federation) (content_of d) p e

plan_walk_says : (d : Data) (p : Option Plan) → plan_walk d ≡ Ok p → (c : Content) × (content_of d ≡ Ok c) × (c.plan ≡ p)
unfolding plan_walk
plan_walk_says d p e = part_ok (λ c. c.plan) (content_of d) p e

-- the federation
pub keys_mean : KeysMean
keys_mean d p e =
    let c = walk_says d p e in
    let s = content_says d c.0 c.1 in
    record {
      version = s.version;
      known = s.known;
      said = s.said;
      end = s.end ∙ ap (λ (q : Parts). Some q.end) c.2;
      buffers = s.buffers ∙ ap (λ (q : Parts). Some q.buffers) c.2;
      lookaheads = ap (λ (q : Parts). map lookahead_in q.federates) (sym c.2) ∙ s.lookaheads;
    }

-- what was read of a file is read of it by both walks
both : (d : Data) (c : Content) → content_of d ≡ Ok c → (walk d ≡ Ok c.federation) × (plan_walk d ≡ Ok c.plan)
unfolding walk plan_walk
both d c e = (ap (λ r. r >>= λ c. Ok c.federation) e, ap (λ r. r >>= λ c. Ok c.plan) e)

-- a plan that is another's is none that is not there
some_is : (p q : Plan) → Some p ≡ Some q → p ≡ q
some_is p q e = cc

-- the plan
pub plans_mean : PlansMean
plans_mean d plan e =
    let c = plan_walk_says d (Some plan) e in
    let s = content_says d c.0 c.1 in
    elim s.kind [
      | inl is ↦ (
          let same : is.0 ≡ plan = some_is is.0 plan (sym is.3 ∙ c.2) in
          record {
            version = s.said ∙ ap Some is.1;
            federation = (both d c.0 c.1).0 ∙ ap Ok (is.2 ∙ ap federation_of same);
            fits = ap crowded_federate (sym same) ∙ is.4;
          })
      | inr is ↦ (let no : None ≡ Some plan = sym is.1 ∙ c.2 in absurd (cc))
    ]

-- no plan
pub others_have_none : OthersHaveNone
others_have_none d = (to, from)
  where
    below : (n : ℕ) → n ≤ 3 → n ≢ 3 → n ≤ 2
    below n le ne = omega (arith, ne)

    to : plan_walk d ≡ Ok None → (version : ℕ) × (number_under (codes "version") d ≡ Some version) × (version ≤ 2) × (p : Parts) × (walk d ≡ Ok p)
    to e =
        let c = plan_walk_says d None e in
        let s = content_says d c.0 c.1 in
        elim s.kind [
          | inl is ↦ (let no : Some is.0 ≡ None = sym is.3 ∙ c.2 in absurd (cc))
          | inr is ↦ (s.version, s.said, below s.version s.known.1 is.0, c.0.federation, (both d c.0 c.1).0)
        ]

    from : ((version : ℕ) × (number_under (codes "version") d ≡ Some version) × (version ≤ 2) × (p : Parts) × (walk d ≡ Ok p)) → plan_walk d ≡ Ok None
    from h =
        let c = walk_says d h.3 h.4 in
        let s = content_says d c.0 c.1 in
        elim s.kind [
          | inl is ↦ (let no : Some 3 ≡ Some h.0 = sym (s.said ∙ ap Some is.1) ∙ h.1 in let same : 3 ≡ h.0 = cc in absurd (omega (arith, same, h.2)))
          | inr is ↦ (both d c.0 c.1).1 ∙ ap Ok is.1
        ]

-- the faults
pub same_faults : SameFaults
unfolding walk plan_walk
same_faults d f = (from (content_of d), to (content_of d))
  where
    from : (r : Result Content Fault) → (r >>= λ c. Ok c.plan) ≡ Err f → (r >>= λ c. Ok c.federation) ≡ Err f
    from (Ok c) e = absurd (cc)
    from (Err g) e = cc

    to : (r : Result Content Fault) → (r >>= λ c. Ok c.federation) ≡ Err f → (r >>= λ c. Ok c.plan) ≡ Err f
    to (Ok c) e = absurd (cc)
    to (Err g) e = cc
