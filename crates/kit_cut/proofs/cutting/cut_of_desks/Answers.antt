use Rattle.std.proofs.Common.{◌≡◌, ◌∙◌, suc, ◌+◌, ◌<◌, ◌≤◌, ◌++◌, [], ◌∷◌, ℕ, List, All, ap, sym, subst, arith, length}
use Rattle.kit_oracle.specs.declared.desk.Desk.{Desk}
use Rattle.kit_cut.specs.declared.cut.Standing.{Standing}
use Rattle.kit_cut.specs.Desks.{next_of_desks, standings_of_desks}
use Rattle.kit_cut.proofs.ByTime.{first_desk, next_joins, standing_joins}
use Rattle.kit_cut.proofs.cutting.cut_of_desks.Goals as goal

pub loop-i-preserved : goal.loop-i-preserved
loop-i-preserved c =
    let p = c.args.federation.now in
    let i = c.loop-i.i in
    let inv = c.loop-i.invariant in
    let ds = c.loop-i.desks.items in
    let rest = c.remove-desk.new.self.items in
    let x = c.remove-desk.result in
    let here : 0 < length ds = omega (arith, inv.each, c.loop-i-test.true, c.count-i-end.ensures.value) in
    let first : ds ≡ x ∷ rest = first_desk ds x here c.remove-desk.ensures.value ∙ ap (λ (ys : List Desk). x ∷ ys) (sym c.remove-desk.ensures.items) in
    let A : List Desk → Type 0 = All (λ (d : Desk). d.now ≤ p.end) in
    let all : All (λ (d : Desk). d.now ≤ p.end) (x ∷ rest) = subst A first inv.now in
    record {
      each = (let longer : length ds ≡ suc (length rest) = ap (λ (ys : List Desk). length ys) first in omega (arith, inv.each));
      now = λ k d lt. all (suc k) d (omega arith);
      next = ap (λ (ys : List ℕ). ys ++ next_of_desks rest) (c.in_ok-push.ensures.ok ∙ ap (λ (n : ℕ). c.loop-i.next ++ n ∷ []) c.next.ensures.next) ∙ next_joins c.loop-i.next ds rest x first ∙ inv.next;
      federates = ap (λ (ys : List Standing). ys ++ standings_of_desks p (i + 1) rest) (c.in_ok-push-2.ensures.ok ∙ ap (λ (s : Standing). c.loop-i.federates ++ s ∷ []) c.in_ok-standing.ensures)
          ∙ standing_joins p i c.loop-i.federates ds rest x first ∙ inv.federates;
    }
