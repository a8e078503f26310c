use Rattle.std.proofs.Common.{rules, length, Bool, true, ◌≡◌, ℕ, ◌<◌, lit<, refl, sym, ap, ◌∙◌, subst, arith}
use Rattle.kit_ground.specs.declared.place.Deed.TheVariants.{SawFree, Wrote, Charged, PostedTo}
use Rattle.kit_ground.specs.declared.place.Deed.{Deed}
use Rattle.kit_ground.specs.declared.place.Place.{Place}
use Rattle.kit_ground.specs.Coming.{AreSteps}
use Rattle.kit_ground.specs.Floors.{Floor, RulesHold, place_of, new_floor}
use Rattle.kit_ground.specs.Joining.{came_on}
use Rattle.kit_ground.specs.Layout.{mail_words}
use Rattle.kit_ground.specs.Rules.{own_at_first}
use Rattle.kit_ground.specs.Steps.{IsChargeable, IsMask, place_after, buffer_of}
use Rattle.kit_ground.specs.contracts.bare.BareProtocol.TheImpl.{first-value, rule-value}
use Rattle.kit_ground.proofs.MailWords.{mail_words_are, some_words}
use Rattle.kit_ground.proofs.PlainSeats.{place_else}
use Rattle.kit_ground.proofs.PlainSteps.{number, federates, buffers}
use Rattle.kit_ground.proofs.plain.tests.mail_goes_by_64_buffers.Goals as goal

abbrev F : Type 0
F = Floor (Unit {0}) (Unit {0})

abbrev first : Unit {0} → ℕ → Unit {0}
first = first-value.it

abbrev P : Type 0
P = Place (Unit {0})

abbrev next : Deed → P → Unit {0}
next = λ deed p. p.client

-- a place as it is at first
abbrev newcomer : ℕ → P
newcomer k = record { own = own_at_first 2 65 k; client = tt }

-- the first federate, after it saw the buffer k free, wrote it, charged it and posted it
abbrev seen : ℕ → P → P
seen k p = place_after next (SawFree k true) p

abbrev written : ℕ → ℕ → ℕ → P → P
written k head body p = place_after next (Wrote k 1 body) (place_after next (Wrote k 0 head) (seen k p))

abbrev charged : ℕ → ℕ → ℕ → P → P
charged k head body p = place_after next (Charged k 2) (written k head body p)

abbrev posted : ℕ → ℕ → ℕ → P → P
posted k head body p = place_after next (PostedTo k 1) (charged k head body p)

-- the first federate's place, when it is seated after a step of the second on a new floor
seated_again : (a b d f : F) → a ≡ new_floor first tt 2 65 → b ≡ record a { seated = 1 } → AreSteps first b d → f ≡ record d { seated = 0 } → place_of first f ≡ newcomer 0
seated_again a b d f is one came zero =
    ap (place_of first) zero
    ∙ (place_else first b d came 0 (λ (e : 0 ≡ b.seated). let s : b.seated ≡ 1 = ap (λ (x : F). x.seated) one in omega (arith, e, s))
    ∙ (λ i. place_of first (record (one i) { seated = 0 })) ∙ (λ i. place_of first (record (is i) { seated = 0 })))

step_on : (p q r : P) (deed : Deed) → r ≡ place_after next deed p → p ≡ q → r ≡ place_after next deed q
step_on p q r deed step is = step ∙ ap (place_after next deed) is

see_on : (k : ℕ) (free : Bool) (p q r : P) → r ≡ place_after next (SawFree k free) p → free ≡ true → p ≡ q → r ≡ seen k q
see_on k free p q r step found is = step ∙ (λ i. place_after next (SawFree k (found i)) (is i))

-- the second federate's place at first
second : (a b : F) → a ≡ new_floor first tt 2 65 → b ≡ record a { seated = 1 } → place_of first b ≡ newcomer 1
second a b is one = ap (place_of first) one ∙ (λ i. place_of first (record (is i) { seated = 1 }))

-- there are two mail words for 65 buffers
two_words : mail_words 65 ≡ 2
two_words = mail_words_are 65

pub collect-requires-clause-word : goal.collect-requires-clause-word
collect-requires-clause-word g c =
    let is = second _ _ c.in_ok-floor.ensures c.seat.ensures.seated in
    subst (λ (x : P). 0 < mail_words x.own.buffers) (sym is) (some_words 65 (lit< tt))

pub look_free-requires-clause-buffer : goal.look_free-requires-clause-buffer
look_free-requires-clause-buffer g c =
    let is = seated_again _ _ _ _ c.in_ok-floor.ensures c.seat.ensures.seated c.collect.ensures.came c.seat-2.ensures.seated in
    subst (λ (x : P). 0 < x.own.buffers) (sym is) (lit< tt)

pub look_free-requires-clause-posted : goal.look_free-requires-clause-posted
look_free-requires-clause-posted g c =
    let is = seated_again _ _ _ _ c.in_ok-floor.ensures c.seat.ensures.seated c.collect.ensures.came c.seat-2.ensures.seated in
    ap (λ (x : P). (buffer_of x.own.stock 0).to_post) is

pub write_part-requires-clause-free : goal.write_part-requires-clause-free
write_part-requires-clause-free g c =
    let is = seated_again _ _ _ _ c.in_ok-floor.ensures c.seat.ensures.seated c.collect.ensures.came c.seat-2.ensures.seated in
    ap (λ (x : P). (buffer_of x.own.stock 0).free) (see_on 0 _ _ _ _ c.look_free.ensures.place (search rules) is)

pub charge-requires-clause-mask : goal.charge-requires-clause-mask
charge-requires-clause-mask g c =
    let is = seated_again _ _ _ _ c.in_ok-floor.ensures c.seat.ensures.seated c.collect.ensures.came c.seat-2.ensures.seated in
    let at = step_on _ _ _ (Wrote 0 1 2) c.write_part-2.ensures.place (step_on _ _ _ (Wrote 0 0 1) c.write_part.ensures.place (see_on 0 _ _ _ _ c.look_free.ensures.place (search rules) is)) in
    subst (λ (x : P). IsMask x.own 2) (sym at) ((λ e. omega (arith, e)), lit< tt, refl)

pub post-requires-clause-to : goal.post-requires-clause-to
post-requires-clause-to g c =
    let is = seated_again _ _ _ _ c.in_ok-floor.ensures c.seat.ensures.seated c.collect.ensures.came c.seat-2.ensures.seated in
    let at = step_on _ _ _ (Charged 0 2) c.charge.ensures.place (step_on _ _ _ (Wrote 0 1 2) c.write_part-2.ensures.place (step_on _ _ _ (Wrote 0 0 1) c.write_part.ensures.place (see_on 0 _ _ _ _ c.look_free.ensures.place (search rules) is))) in
    subst (λ (x : P). 1 < x.own.federates) (sym at) (lit< tt)

pub look_free-requires-2-clause-buffer : goal.look_free-requires-2-clause-buffer
look_free-requires-2-clause-buffer g c =
    let is = seated_again _ _ _ _ c.in_ok-floor.ensures c.seat.ensures.seated c.collect.ensures.came c.seat-2.ensures.seated in
    let at = step_on _ _ _ (PostedTo 0 1) c.post.ensures.place (step_on _ _ _ (Charged 0 2) c.charge.ensures.place (step_on _ _ _ (Wrote 0 1 2) c.write_part-2.ensures.place (step_on _ _ _ (Wrote 0 0 1) c.write_part.ensures.place (see_on 0 _ _ _ _ c.look_free.ensures.place (search rules) is)))) in
    subst (λ (x : P). 64 < x.own.buffers) (sym at) (lit< tt)

pub look_free-requires-2-clause-posted : goal.look_free-requires-2-clause-posted
look_free-requires-2-clause-posted g c =
    let is = seated_again _ _ _ _ c.in_ok-floor.ensures c.seat.ensures.seated c.collect.ensures.came c.seat-2.ensures.seated in
    let at = step_on _ _ _ (PostedTo 0 1) c.post.ensures.place (step_on _ _ _ (Charged 0 2) c.charge.ensures.place (step_on _ _ _ (Wrote 0 1 2) c.write_part-2.ensures.place (step_on _ _ _ (Wrote 0 0 1) c.write_part.ensures.place (see_on 0 _ _ _ _ c.look_free.ensures.place (search rules) is)))) in
    ap (λ (x : P). (buffer_of x.own.stock 64).to_post) at

pub write_part-requires-3-clause-free : goal.write_part-requires-3-clause-free
write_part-requires-3-clause-free g c =
    let is = seated_again _ _ _ _ c.in_ok-floor.ensures c.seat.ensures.seated c.collect.ensures.came c.seat-2.ensures.seated in
    let at = step_on _ _ _ (PostedTo 0 1) c.post.ensures.place (step_on _ _ _ (Charged 0 2) c.charge.ensures.place (step_on _ _ _ (Wrote 0 1 2) c.write_part-2.ensures.place (step_on _ _ _ (Wrote 0 0 1) c.write_part.ensures.place (see_on 0 _ _ _ _ c.look_free.ensures.place (search rules) is)))) in
    ap (λ (x : P). (buffer_of x.own.stock 64).free) (see_on 64 _ _ _ _ c.look_free-2.ensures.place (search rules) at)

pub charge-requires-2-clause-ready : goal.charge-requires-2-clause-ready
charge-requires-2-clause-ready g c =
    let is = seated_again _ _ _ _ c.in_ok-floor.ensures c.seat.ensures.seated c.collect.ensures.came c.seat-2.ensures.seated in
    let at = step_on _ _ _ (PostedTo 0 1) c.post.ensures.place (step_on _ _ _ (Charged 0 2) c.charge.ensures.place (step_on _ _ _ (Wrote 0 1 2) c.write_part-2.ensures.place (step_on _ _ _ (Wrote 0 0 1) c.write_part.ensures.place (see_on 0 _ _ _ _ c.look_free.ensures.place (search rules) is)))) in
    let last = step_on _ _ _ (Wrote 64 1 4) c.write_part-4.ensures.place (step_on _ _ _ (Wrote 64 0 3) c.write_part-3.ensures.place (see_on 64 _ _ _ _ c.look_free-2.ensures.place (search rules) at)) in
    subst (λ (x : P). IsChargeable x.own 64) (sym last) (refl, refl, refl)

-- the eight steps of the first federate
eight : (a b d e f g h k l : F) → AreSteps first a b → AreSteps first b d → AreSteps first d e → AreSteps first e f → AreSteps first f g → AreSteps first g h → AreSteps first h k → AreSteps first k l → AreSteps first a l
eight a b d e f g h k l ab bd de ef fg gh hk kl =
    let on = came_on first in
    on a k l (on a h k (on a g h (on a f g (on a e f (on a d e (on a b d ab bd) de) ef) fg) gh) hk) kl

-- the second federate is seated on a floor of two with 65 buffers each, on which both rules hold
sizes : (f : F) → RulesHold rule-value.it f → f.seated ≡ 1 → length f.places ≡ 2 → f.buffers ≡ 65 → ((place_of first f).own.number ≡ 1) × ((place_of first f).own.federates ≡ 2) × ((place_of first f).own.buffers ≡ 65)
sizes f r seated two many = (number rule-value.it first f r ∙ seated, federates rule-value.it first f r ∙ two, buffers rule-value.it first f r ∙ many)

-- so it is when it is seated the second time
seated_last : (z a b d l m : F) → z ≡ new_floor first tt 2 65 → a ≡ record z { seated = 1 } → AreSteps first a b → d ≡ record b { seated = 0 } → AreSteps first d l → m ≡ record l { seated = 1 } → RulesHold rule-value.it m
    → ((place_of first m).own.number ≡ 1) × ((place_of first m).own.federates ≡ 2) × ((place_of first m).own.buffers ≡ 65)
seated_last z a b d l m new one collected zero all again ruled = sizes m ruled (ap (λ (x : F). x.seated) again)
    (ap (λ (x : F). length x.places) again ∙ (all.many ∙ (ap (λ (x : F). length x.places) zero ∙ (collected.many ∙ (ap (λ (x : F). length x.places) one ∙ ap (λ (x : F). length x.places) new)))))
    (ap (λ (x : F). x.buffers) again ∙ (all.buffers ∙ (ap (λ (x : F). x.buffers) zero ∙ (collected.buffers ∙ (ap (λ (x : F). x.buffers) one ∙ ap (λ (x : F). x.buffers) new)))))

pub collect-requires-2-clause-from : goal.collect-requires-2-clause-from
collect-requires-2-clause-from g c =
    let all = eight _ _ _ _ _ _ _ _ _ c.look_free.ensures.came c.write_part.ensures.came c.write_part-2.ensures.came c.charge.ensures.came (came_on first _ _ _ c.post.ensures.came c.look_free-2.ensures.came) c.write_part-3.ensures.came c.write_part-4.ensures.came (came_on first _ _ _ c.charge-2.ensures.came c.post-2.ensures.came) in
    let is = seated_last _ _ _ _ _ _ c.in_ok-floor.ensures c.seat.ensures.seated c.collect.ensures.came c.seat-2.ensures.seated all c.seat-3.ensures.seated c.seat-3.ensures.ruled in
    subst (λ (n : ℕ). 0 < n) (sym is.1) (lit< tt)

pub collect-requires-2-clause-other : goal.collect-requires-2-clause-other
collect-requires-2-clause-other g c e =
    let all = eight _ _ _ _ _ _ _ _ _ c.look_free.ensures.came c.write_part.ensures.came c.write_part-2.ensures.came c.charge.ensures.came (came_on first _ _ _ c.post.ensures.came c.look_free-2.ensures.came) c.write_part-3.ensures.came c.write_part-4.ensures.came (came_on first _ _ _ c.charge-2.ensures.came c.post-2.ensures.came) in
    let is = seated_last _ _ _ _ _ _ c.in_ok-floor.ensures c.seat.ensures.seated c.collect.ensures.came c.seat-2.ensures.seated all c.seat-3.ensures.seated c.seat-3.ensures.ruled in
    omega (arith, e, is.0)

pub collect-requires-2-clause-word : goal.collect-requires-2-clause-word
collect-requires-2-clause-word g c =
    let all = eight _ _ _ _ _ _ _ _ _ c.look_free.ensures.came c.write_part.ensures.came c.write_part-2.ensures.came c.charge.ensures.came (came_on first _ _ _ c.post.ensures.came c.look_free-2.ensures.came) c.write_part-3.ensures.came c.write_part-4.ensures.came (came_on first _ _ _ c.charge-2.ensures.came c.post-2.ensures.came) in
    let is = seated_last _ _ _ _ _ _ c.in_ok-floor.ensures c.seat.ensures.seated c.collect.ensures.came c.seat-2.ensures.seated all c.seat-3.ensures.seated c.seat-3.ensures.ruled in
    subst (λ (b : ℕ). 1 < mail_words b) (sym is.2) (subst (λ (n : ℕ). 1 < n) (sym two_words) (lit< tt))
