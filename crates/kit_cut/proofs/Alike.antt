-- Rules that run over other sends, of which the same may be taken back, make the same messages.
use Rattle.std.proofs.Common.{◌≡◌, ℕ, inl, inr, ◌==◌, Bool, true, false, cond, not, ◌&&◌, ◌||◌, ◌+◌, ◌<◌, ◌≤◌, List, [], ◌∷◌, ◌++◌, length, get_or, find, nat_eq, nat_le, Option, Some, None, IfSome, arith, refl, sym, subst, ap, ◌∙◌, append_assoc}
use Rattle.std.specs.List.{AllByRecursion, list_any}
use Rattle.std.specs.Option.{option_to_list, option_map, option_or}
use Rattle.std.proofs.lemmas.Bool.{ne_eqb}
use Rattle.std.proofs.lemmas.Bool.Decides.{eqb_tells}
use Rattle.std.proofs.lemmas.List.{append-nil}
use Rattle.std.proofs.lemmas.List.Folds.{list_any-append, find-append}
use Rattle.kit_base.specs.declared.message.Message.{Message}
use Rattle.kit_base.proofs.Lists.{all-append, all_found, each_weaker}
use Rattle.kit_rules.specs.declared.table.Action.{Action}
use Rattle.kit_rules.specs.declared.table.Action.TheVariants as action
use Rattle.kit_rules.specs.declared.table.Trigger.{Trigger}
use Rattle.kit_rules.specs.declared.table.Rule.{Rule}
use Rattle.kit_rules.specs.Parts.{Parts, federate_at, effective_lookahead}
use Rattle.kit_rules.specs.declared.scene.Scene.{Scene}
use Rattle.kit_rules.specs.declared.scene.State.{State}
use Rattle.kit_rules.specs.declared.own.Own.{Own}
use Rattle.kit_rules.specs.Own.{own_of}
use Rattle.kit_base.specs.declared.message.Kind.TheVariants.{Retraction}
use Rattle.kit_rules.specs.Step.{is_event, takes_back, message_of, retraction_of, is_target, vars_after, wish_after, after_action, after_actions, after_rule, after_rules, same_trigger, conditions_hold, scene_of, state_after}

-- what a number names in a scene, as far as a Retraction reads it
abbrev pub named : Scene → ℕ → List Message → Option Own
named sc n sends = option_map own_of (find (is_target sc sends n) sends)

-- a scene of this lookahead and end, at a time or later
pub record Suits (lookahead end now : ℕ) (sc : Scene) : Type 0 where
  pub ends : sc.end ≡ end
  pub looks : sc.lookahead ≡ lookahead
  pub late : now ≤ sc.time

-- a message and what it names have numbers below the next
abbrev pub Closed : ℕ → Message → Type 0
Closed next m = (m.number < next) × (is_event m.kind ≡ false → m.value < next)

-- in each such scene each number names the same in both lists
pub record Same (lookahead end now next : ℕ) (xs ys : List Message) : Type 0 where
  pub names : (sc : Scene) (n : ℕ) → Suits lookahead end now sc → named sc n xs ≡ named sc n ys
  pub left : AllByRecursion (Closed next) xs
  pub right : AllByRecursion (Closed next) ys

-- none of them takes back a number that comes later
none_back : (next k : ℕ) (xs : List Message) → AllByRecursion (Closed next) xs → next ≤ k → list_any (takes_back k) xs ≡ false
none_back next k [] h le = refl
none_back next k (m ∷ ms) h le = ap (λ b. b || list_any (takes_back k) ms) (other (is_event m.kind) h.0.1) ∙ none_back next k ms h.1 le
  where
    other : (b : Bool) → (b ≡ false → m.value < next) → (not b && nat_eq m.value k) ≡ false
    other true f = refl
    other false f = ne_eqb m.value k (λ e. let lt : m.value < next = f refl in omega arith)

-- the test of a target, where it is known whether its number is taken back
abbrev pub targets : Scene → ℕ → Bool → Message → Bool
targets sc n back m = is_event m.kind && (m.number == n) && nat_le m.time sc.end && nat_le (sc.time + sc.lookahead) m.time && not back

pub or_none : {X : Type 0} (o : Option X) → option_or o None ≡ o
or_none None = refl
or_none (Some x) = refl

map_or : {X Y : Type 0} (f : X → Y) (a b : Option X) → option_map f (option_or a b) ≡ option_or (option_map f a) (option_map f b)
map_or f None b = refl
map_or f (Some x) b = refl

or_false : (b : Bool) → (b || false) ≡ b
or_false true = refl
or_false false = refl

or_true : (b : Bool) → (b || true) ≡ true
or_true true = refl
or_true false = refl

-- whether an Event is what a number names, where it is not taken back
abbrev is_named : Scene → ℕ → Message → Bool
is_named sc n m = (m.number == n) && nat_le m.time sc.end && nat_le (sc.time + sc.lookahead) m.time

-- a new Event is named by its number
named_event : (sc : Scene) (n : ℕ) (xs : List Message) (m : Message) → is_event m.kind ≡ true → list_any (takes_back m.number) xs ≡ false
    → named sc n (xs ++ m ∷ []) ≡ option_or (named sc n xs) (cond (is_named sc n m) (Some (own_of m)) None)
named_event sc n xs m e none =
    let back = list_any (takes_back n) xs in
    let same : list_any (takes_back n) (xs ++ m ∷ []) ≡ back = list_any-append (takes_back n) xs (m ∷ []) ∙ ap (λ b. back || ((not b && nat_eq m.value n) || false)) e ∙ or_false back in
    ap (λ b. option_map own_of (find (targets sc n b) (xs ++ m ∷ []))) same
    ∙ ap (option_map own_of) (find-append (targets sc n back) xs (m ∷ []))
    ∙ map_or own_of (find (targets sc n back) xs) (find (targets sc n back) (m ∷ []))
    ∙ ap (option_or (named sc n xs)) (alone (targets sc n back m) ∙ ap (λ b. cond b (Some (own_of m)) None) tests)
  where
    alone : (b : Bool) → option_map own_of (cond b (Some m) None) ≡ cond b (Some (own_of m)) None
    alone true = refl
    alone false = refl

    shape : (a k t l c : Bool) → a ≡ true → (k ≡ true → c ≡ false) → (a && k && t && l && not c) ≡ (k && t && l)
    shape true true true true c h f = ap not (f refl)
    shape true true true false c h f = refl
    shape true true false l c h f = refl
    shape true false t l c h f = refl
    shape false k t l c h f = absurd (cc)

    number_is : nat_eq m.number n ≡ true → list_any (takes_back n) xs ≡ false
    number_is h = elim (eqb_tells m.number n) [ inl is ↦ ap (λ (k : ℕ). list_any (takes_back k) xs) (sym is.1) ∙ none | inr ne ↦ absurd (let x = ne.0 in cc) ]

    tests : targets sc n (list_any (takes_back n) xs) m ≡ is_named sc n m
    tests = shape (is_event m.kind) (nat_eq m.number n) (nat_le m.time sc.end) (nat_le (sc.time + sc.lookahead) m.time) (list_any (takes_back n) xs) e number_is

-- a new Retraction leaves its number without a name
named_retraction : (sc : Scene) (n : ℕ) (xs : List Message) (m : Message) → is_event m.kind ≡ false → named sc n (xs ++ m ∷ []) ≡ cond (nat_eq m.value n) None (named sc n xs)
named_retraction sc n xs m e =
    let back = list_any (takes_back n) xs in
    let more : list_any (takes_back n) (xs ++ m ∷ []) ≡ (back || (nat_eq m.value n || false)) = list_any-append (takes_back n) xs (m ∷ []) ∙ ap (λ b. back || ((not b && nat_eq m.value n) || false)) e in
    ap (λ b. option_map own_of (find (targets sc n b) (xs ++ m ∷ []))) more
    ∙ by_value (nat_eq m.value n)
  where
    no_event : (a k t l c : Bool) → a ≡ false → (a && k && t && l && c) ≡ false
    no_event false k t l c h = refl
    no_event true k t l c h = absurd (cc)

    never : (a k t l : Bool) → (a && k && t && l && false) ≡ false
    never true true true true = refl
    never true true true false = refl
    never true true false l = refl
    never true false t l = refl
    never false k t l = refl

    nothing : (ys : List Message) → find (targets sc n true) ys ≡ None
    nothing [] = refl
    nothing (y ∷ ys) = ap (λ b. cond b (Some y) (find (targets sc n true) ys)) (never (is_event y.kind) (nat_eq y.number n) (nat_le y.time sc.end) (nat_le (sc.time + sc.lookahead) y.time)) ∙ nothing ys

    by_value : (b : Bool) → option_map own_of (find (targets sc n (list_any (takes_back n) xs || (b || false))) (xs ++ m ∷ [])) ≡ cond b None (named sc n xs)
    by_value true = ap (λ b. option_map own_of (find (targets sc n b) (xs ++ m ∷ []))) (or_true (list_any (takes_back n) xs)) ∙ ap (option_map own_of) (nothing (xs ++ m ∷ []))
    by_value false =
        let back = list_any (takes_back n) xs in
        ap (λ b. option_map own_of (find (targets sc n b) (xs ++ m ∷ []))) (or_false back)
        ∙ ap (option_map own_of) (find-append (targets sc n back) xs (m ∷ [])
        ∙ ap (λ b. option_or (find (targets sc n back) xs) (cond b (Some m) None)) (no_event (is_event m.kind) (nat_eq m.number n) (nat_le m.time sc.end) (nat_le (sc.time + sc.lookahead) m.time) (not back) e)
        ∙ or_none (find (targets sc n back) xs))

-- a message that may come next
abbrev IsNextMessage : ℕ → Message → Type 0
IsNextMessage next m = (m.number ≡ next) × (is_event m.kind ≡ false → m.value < next)

-- a message that both lists gain
same_one : (la end now next : ℕ) (xs ys : List Message) (m : Message) → Same la end now next xs ys → IsNextMessage next m → Same la end now (next + 1) (xs ++ m ∷ []) (ys ++ m ∷ [])
same_one la end now next xs ys m s fits =
    let up : (zs : List Message) → AllByRecursion (Closed next) zs → AllByRecursion (Closed (next + 1)) (zs ++ m ∷ []) = λ zs h.
    all-append (Closed (next + 1)) zs (m ∷ []) (each_weaker (Closed next) (Closed (next + 1)) zs (λ x c. (omega (arith, c.0), λ e. omega (arith, c.1 e))) h) ((omega (arith, fits.0), λ e. omega (arith, fits.1 e)), tt) in
    record { names = λ sc n suits. by_kind sc n (s.names sc n suits) (is_event m.kind) refl; left = up xs s.left; right = up ys s.right }
  where
    none : (zs : List Message) → AllByRecursion (Closed next) zs → list_any (takes_back m.number) zs ≡ false
    none zs h = none_back next m.number zs h (omega (arith, fits.0))

    by_kind : (sc : Scene) (n : ℕ) → named sc n xs ≡ named sc n ys → (b : Bool) → is_event m.kind ≡ b → named sc n (xs ++ m ∷ []) ≡ named sc n (ys ++ m ∷ [])
    by_kind sc n is true e =
        named_event sc n xs m e (none xs s.left) ∙ ap (λ o. option_or o (cond (is_named sc n m) (Some (own_of m)) None)) is ∙ sym (named_event sc n ys m e (none ys s.right))
    by_kind sc n is false e =
        named_retraction sc n xs m e ∙ ap (λ o. cond (nat_eq m.value n) None o) is ∙ sym (named_retraction sc n ys m e)

same_more : (la end now next : ℕ) (xs ys : List Message) (o : Option Message) → Same la end now next xs ys → IfSome o (IsNextMessage next)
    → Same la end now (next + length (option_to_list o)) (xs ++ option_to_list o) (ys ++ option_to_list o)
same_more la end now next xs ys None s fits =
    let P : List Message → List Message → Type 0 = λ a b. Same la end now next a b in
    let Q : List Message → Type 0 = λ a. P a (ys ++ []) in
    let R : ℕ → Type 0 = λ n. Same la end now n (xs ++ []) (ys ++ []) in
    subst R (let e : next ≡ next + 0 = omega arith in e) (subst Q (sym (append-nil xs)) (subst (P xs) (sym (append-nil ys)) s))
same_more la end now next xs ys (Some m) s fits = same_one la end now next xs ys m s fits

-- the state with other sends
abbrev pub with_sends : State → List Message → State
with_sends s ys = record { vars = s.vars; wish = s.wish; next = s.next; sends = ys }

-- a step makes the same messages over other sends, and leaves the same to be taken back
pub record Follows (la end now : ℕ) (f : State → State) (a : State) (ys : List Message) : Type 0 where
  pub made : List Message
  pub sends : (f a).sends ≡ a.sends ++ made
  pub there : f (with_sends a ys) ≡ with_sends (f a) (ys ++ made)
  pub same : Same la end now (f a).next (f a).sends (ys ++ made)

pub follows_none : (la end now : ℕ) (a : State) (ys : List Message) → Same la end now a.next a.sends ys → Follows la end now (λ s. s) a ys
follows_none la end now a ys s =
    let P : List Message → Type 0 = λ zs. Same la end now a.next a.sends zs in
    record { made = []; sends = sym (append-nil a.sends); there = ap (with_sends a) (sym (append-nil ys)); same = subst P (sym (append-nil ys)) s }

pub follows_more : (la end now : ℕ) (f g : State → State) (a : State) (ys : List Message) (x : Follows la end now f a ys) → Follows la end now g (f a) (ys ++ x.made) → Follows la end now (λ s. g (f s)) a ys
follows_more la end now f g a ys x y =
    let P : List Message → Type 0 = λ zs. Same la end now (g (f a)).next (g (f a)).sends zs in
    let one : (ys ++ x.made) ++ y.made ≡ ys ++ (x.made ++ y.made) = append_assoc ys x.made y.made in
    record {
      made = x.made ++ y.made;
      sends = y.sends ∙ ap (λ zs. zs ++ y.made) x.sends ∙ append_assoc a.sends x.made y.made;
      there = ap g x.there ∙ y.there ∙ ap (with_sends (g (f a))) one;
      same = subst P one y.same;
    }

-- the Retraction of what is found is told by what a Retraction reads
abbrev back_from : Scene → ℕ → Own → Message
back_from sc next o = record { time = o.time; sender = sc.sender; number = next; kind = Retraction; group = o.group; value = o.number }

back_is : (sc : Scene) (s : State) (o : Option Message) → option_map (retraction_of sc s) o ≡ option_map (back_from sc s.next) (option_map own_of o)
back_is sc s None = refl
back_is sc s (Some m) = refl

-- an action makes the same message
same_message : (la end now : ℕ) (sc : Scene) (a : State) (ys : List Message) (act : Action) → Suits la end now sc → Same la end now a.next a.sends ys → message_of sc (with_sends a ys) act ≡ message_of sc a act
same_message la end now sc a ys (action.Set v to) su s = refl
same_message la end now sc a ys (action.Add v by) su s = refl
same_message la end now sc a ys (action.Sub v by) su s = refl
same_message la end now sc a ys (action.Send g d x k) su s = refl
same_message la end now sc a ys (action.Retract v) su s =
    let n = get_or a.vars v 0 in
    back_is sc (with_sends a ys) (find (is_target sc ys n) ys) ∙ ap (option_map (back_from sc a.next)) (sym (s.names sc n su)) ∙ sym (back_is sc a (find (is_target sc a.sends n) a.sends))
same_message la end now sc a ys (action.Tar n) su s = refl
same_message la end now sc a ys (action.Ner n) su s = refl

same_vars : (sc : Scene) (a : State) (ys : List Message) (act : Action) → vars_after sc (with_sends a ys) act ≡ vars_after sc a act
same_vars sc a ys (action.Set v to) = refl
same_vars sc a ys (action.Add v by) = refl
same_vars sc a ys (action.Sub v by) = refl
same_vars sc a ys (action.Send g d x k) = refl
same_vars sc a ys (action.Retract v) = refl
same_vars sc a ys (action.Tar n) = refl
same_vars sc a ys (action.Ner n) = refl

-- what it makes comes next
comes_next : (la end now : ℕ) (sc : Scene) (a : State) (act : Action) → AllByRecursion (Closed a.next) a.sends → IfSome (message_of sc a act) (IsNextMessage a.next)
comes_next la end now sc a (action.Set v to) h = tt
comes_next la end now sc a (action.Add v by) h = tt
comes_next la end now sc a (action.Sub v by) h = tt
comes_next la end now sc a (action.Send g d x k) h = (refl, λ e. absurd (cc))
comes_next la end now sc a (action.Retract v) h = found (find (is_target sc a.sends (get_or a.vars v 0)) a.sends) (all_found (Closed a.next) (is_target sc a.sends (get_or a.vars v 0)) a.sends h)
  where
    found : (o : Option Message) → IfSome o (Closed a.next) → IfSome (option_map (retraction_of sc a) o) (IsNextMessage a.next)
    found None c = tt
    found (Some m) c = (refl, λ e. c.0)
comes_next la end now sc a (action.Tar n) h = tt
comes_next la end now sc a (action.Ner n) h = tt

follows_action : (la end now : ℕ) (sc : Scene) (act : Action) (a : State) (ys : List Message) → Suits la end now sc → Same la end now a.next a.sends ys → Follows la end now (λ s. after_action sc s act) a ys
follows_action la end now sc act a ys su s =
    let o = message_of sc a act in
    let whole : List ℕ → Option Message → State = λ vars o. record { vars = vars; wish = wish_after a.wish act; next = a.next + length (option_to_list o); sends = ys ++ option_to_list o } in
    record {
      made = option_to_list o;
      sends = refl;
      there = ap (λ vars. whole vars (message_of sc (with_sends a ys) act)) (same_vars sc a ys act) ∙ ap (whole (vars_after sc a act)) (same_message la end now sc a ys act su s);
      same = same_more la end now a.next a.sends ys o s (comes_next la end now sc a act s.left);
    }

follows_actions : (la end now : ℕ) (sc : Scene) (acts : List Action) (a : State) (ys : List Message) → Suits la end now sc → Same la end now a.next a.sends ys → Follows la end now (λ s. after_actions sc s acts) a ys
follows_actions la end now sc [] a ys su s = follows_none la end now a ys s
follows_actions la end now sc (x ∷ xs) a ys su s =
    let one = follows_action la end now sc x a ys su s in
    follows_more la end now (λ s. after_action sc s x) (λ s. after_actions sc s xs) a ys one (follows_actions la end now sc xs (after_action sc a x) (ys ++ one.made) su one.same)

follows_rule : (la end now : ℕ) (sc : Scene) (on : Trigger) (r : Rule) (a : State) (ys : List Message) → Suits la end now sc → Same la end now a.next a.sends ys → Follows la end now (λ s. after_rule sc on s r) a ys
follows_rule la end now sc on r a ys su s = by_test (same_trigger r.on on && conditions_hold sc a.vars r.conds) refl
  where
    by_test : (b : Bool) → (same_trigger r.on on && conditions_hold sc a.vars r.conds) ≡ b → Follows la end now (λ s. after_rule sc on s r) a ys
    by_test true e =
        let f = follows_actions la end now sc r.actions a ys su s in
        let Q : State → Type 0 = λ t. Same la end now t.next t.sends (ys ++ f.made) in
        let is : after_rule sc on a r ≡ after_actions sc a r.actions = ap (λ b. cond b (after_actions sc a r.actions) a) e in
        record {
          made = f.made;
          sends = ap (λ (t : State). t.sends) is ∙ f.sends;
          there = ap (λ b. cond b (after_actions sc (with_sends a ys) r.actions) (with_sends a ys)) e ∙ f.there ∙ ap (λ t. with_sends t (ys ++ f.made)) (sym is);
          same = subst Q (sym is) f.same;
        }
    by_test false e =
        let f = follows_none la end now a ys s in
        let Q : State → Type 0 = λ t. Same la end now t.next t.sends (ys ++ f.made) in
        let is : after_rule sc on a r ≡ a = ap (λ b. cond b (after_actions sc a r.actions) a) e in
        record {
          made = f.made;
          sends = ap (λ (t : State). t.sends) is ∙ f.sends;
          there = ap (λ b. cond b (after_actions sc (with_sends a ys) r.actions) (with_sends a ys)) e ∙ f.there ∙ ap (λ t. with_sends t (ys ++ f.made)) (sym is);
          same = subst Q (sym is) f.same;
        }

follows_rules : (la end now : ℕ) (sc : Scene) (on : Trigger) (rs : List Rule) (a : State) (ys : List Message) → Suits la end now sc → Same la end now a.next a.sends ys → Follows la end now (λ s. after_rules sc on s rs) a ys
follows_rules la end now sc on [] a ys su s = follows_none la end now a ys s
follows_rules la end now sc on (r ∷ rs) a ys su s =
    let one = follows_rule la end now sc on r a ys su s in
    follows_more la end now (λ s. after_rule sc on s r) (λ s. after_rules sc on s rs) a ys one (follows_rules la end now sc on rs (after_rule sc on a r) (ys ++ one.made) su one.same)

-- the rule step makes the same messages over sends of which the same may be taken back
pub follows_step : (p : Parts) (i : ℕ) (on : Trigger) (since now value : ℕ) (a : State) (ys : List Message) → since ≤ now → Same (effective_lookahead p i) p.end since a.next a.sends ys
    → Follows (effective_lookahead p i) p.end since (state_after p i on now value) a ys
follows_step p i on since now value a ys le s =
    follows_rules (effective_lookahead p i) p.end since (scene_of p i now value) on (federate_at p i).rules a ys (record { ends = refl; looks = refl; late = le }) s
