-- To publish the own share is a contribution.
use Rattle.std.proofs.Common.{◌≡◌, ℕ, ◌-◌, ◌≤◌, ◌==◌, ◌%◌, min, Bool, true, false, cond, List, [], ◌∷◌, ◌++◌, length, arith, refl, sym, ap, ◌∙◌, eq-eqb}
use Rattle.std.specs.List.{All}
use Rattle.std.specs.Prelude.{slice_index_or}
use Rattle.std.proofs.lemmas.Bool.{eqb-true, false≢true}
use Rattle.std.proofs.lemmas.List.{get_or_push, length_push}
use Rattle.std.proofs.lemmas.List.Elements.{All-nil, All-cons, All-head, All-tail}
use Rattle.kit_ground.specs.declared.address.Reg.{Reg}
use Rattle.kit_ground.specs.declared.place.Place.{Place}
use Rattle.kit_rounds.specs.declared.contribution.Contribution.{Contribution}
use Rattle.kit_rounds.specs.Ledgers.{Copy, Ledger, nothing, last_run}
use Rattle.kit_rounds.specs.Rule.{IsTimed}
use Rattle.kit_rounds.specs.Steps.{IsLow}
use Rattle.kit_lbts.specs.declared.view.Scheme.{Scheme}
use Rattle.kit_lbts.specs.declared.view.Scheme.TheVariants.{Flat, Butterfly}
use Rattle.kit_lbts.specs.declared.view.LbtsView.{LbtsView}
use Rattle.kit_lbts.specs.Promises.{ledger_of, low_in, next_contribution}
use Rattle.kit_lbts.specs.Reduction.{share_stage}
use Rattle.kit_lbts.specs.Progress.{view_after_close_if_flat, view_after_contribution, view_after_grant, view_after_close}
use Rattle.kit_lbts.specs.LedgerLaws.{ready_place, ContributionsAre}
use Rattle.kit_lbts.proofs.AsideSteps.{close_leaves}

lower_le : (run low : ℕ) (c : Copy) → cond (c.stamp.colour == run) (min low c.stamp.time) low ≤ low
lower_le run low c = step (c.stamp.colour == run)
  where
    step : (b : Bool) → cond b (min low c.stamp.time) low ≤ low
    step true = omega arith
    step false = omega arith

lower_time : (run low : ℕ) (c : Copy) → c.stamp.colour ≡ run → cond (c.stamp.colour == run) (min low c.stamp.time) low ≤ c.stamp.time
lower_time run low c e = omega (arith, ap (λ b. cond b (min low c.stamp.time) low) (eq-eqb c.stamp.colour run e))

lower_greatest : (run low w : ℕ) (c : Copy) → w ≤ low → IsTimed run w c → w ≤ cond (c.stamp.colour == run) (min low c.stamp.time) low
lower_greatest run low w c le h = step (c.stamp.colour == run) refl
  where
    step : (b : Bool) → (c.stamp.colour == run) ≡ b → w ≤ cond b (min low c.stamp.time) low
    step true e = omega (arith, le, h (eqb-true c.stamp.colour run e))
    step false e = le

pub low_le : (run promise : ℕ) (cs : List Copy) → low_in run promise cs ≤ promise
low_le run promise [] = omega arith
low_le run promise (c ∷ cs) = omega (arith, low_le run (cond (c.stamp.colour == run) (min promise c.stamp.time) promise) cs, lower_le run promise c)

low_posts : (run promise : ℕ) (cs : List Copy) → All (IsTimed run (low_in run promise cs)) cs
low_posts run promise [] = All-nil (IsTimed run promise)
low_posts run promise (c ∷ cs) =
    let next = cond (c.stamp.colour == run) (min promise c.stamp.time) promise in
    All-cons (IsTimed run (low_in run next cs)) c cs (λ e. omega (arith, low_le run next cs, lower_time run promise c e)) (low_posts run next cs)

low_greatest : (run promise w : ℕ) (cs : List Copy) → w ≤ promise → All (IsTimed run w) cs → w ≤ low_in run promise cs
low_greatest run promise w [] le h = le
low_greatest run promise w (c ∷ cs) le h =
    low_greatest run (cond (c.stamp.colour == run) (min promise c.stamp.time) promise) w cs (lower_greatest run promise w c le (All-head (IsTimed run w) c cs h)) (All-tail (IsTimed run w) c cs h)

-- the low is the least of the promise and of the times of the posts of the run's colour
pub low_is : (l : Ledger) (run : ℕ) → IsLow l run (low_in run l.promise l.posted)
low_is l run = record {
  promise = low_le run l.promise l.posted;
  posts = low_posts run l.promise l.posted;
  greatest = λ w le h. low_greatest run l.promise w l.posted le h;
}

pub last_is : (cs : List Contribution) (c : Contribution) → last_run (cs ++ c ∷ []) ≡ c.run
last_is cs c =
    let last : length (cs ++ c ∷ []) - 1 ≡ length cs = omega (arith, length_push cs c) in
    ap (λ k. (slice_index_or (cs ++ c ∷ []) k nothing).run) last ∙ ap (λ (x : Contribution). x.run) (get_or_push cs c nothing (length cs) refl)

abbrev with_view : Place LbtsView → LbtsView → Ledger
with_view p v = ledger_of (record p { client = v })

flat_leaves : (p : Place LbtsView) (scheme : Scheme) (n j : ℕ) (v : LbtsView) → with_view p (view_after_close_if_flat scheme n j v) ≡ with_view p v
flat_leaves p Flat n j v = close_leaves p n j v
flat_leaves p Butterfly n j v = refl

-- what is published is the own share
is_share : (p : Place LbtsView) (r : Reg) (word : ℕ) (a b : Bool) → a ≡ false → b ≡ true
    → cond a (view_after_grant p.own.number word p.client) (cond b (view_after_contribution (ready_place p)) (cond (r.slot % 6 == 0) (view_after_close p.own.federates p.own.number p.client) p.client)) ≡ view_after_contribution (ready_place p)
is_share p r word true b clock own = absurd (false≢true (sym clock))
is_share p r word false true clock own = refl
is_share p r word false false clock own = absurd (false≢true own)

pub contributions_are : ContributionsAre
contributions_are p r word other share =
    let p' = ready_place p in
    let c = next_contribution p' in
    let v = record p'.client { contributions = p'.client.contributions ++ c ∷ []; taken = [] } in (
      refl,
      record {
        posts = refl;
        receipts = refl;
        out = refl;
        inn = refl;
        low = low_is (ledger_of p') c.run;
        is =
            ap (with_view p) (is_share p r word (r.slot == 12) (r.slot % 6 == share_stage) other share) ∙ flat_leaves p v.scheme p.own.federates p.own.number v
            ∙ ap (λ colour. record (ledger_of p') { colour = colour; contributions = p'.client.contributions ++ c ∷ [] }) (last_is p'.client.contributions c);
      },
    )
