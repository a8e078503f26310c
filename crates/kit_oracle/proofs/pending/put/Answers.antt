use Rattle.std.proofs.Common.{sym, subst, ◌∙◌}
use Rattle.kit_oracle.specs.declared.pending.Key.{Key}
use Rattle.kit_oracle.specs.Pending.{IsPlace, IsKeyAt}
use Rattle.kit_oracle.proofs.Rows.{entered, replaced}
use Rattle.kit_oracle.proofs.pending.put.Goals as goal

pub returns-then-has_at-clause-ok : goal.returns-then-has_at-clause-ok
returns-then-has_at-clause-ok c =
    let m = c.args.message in
    let xs = c.args.near.now.items in
    let at = subst (λ (k : Key). IsPlace k xs c.place-at.result) c.key_of-key.ensures c.place-at.ensures in
    let is = subst (λ (k : Key). IsKeyAt k xs c.place-at.result c.has_at.result) c.key_of-key.ensures c.has_at.ensures in
    let inside = is.inside c.if-has_at.true in
    sym (replaced m xs c.place-at.result m inside at.before (is.there m inside ∙ c.if-has_at.true))

pub returns-clause-ok : goal.returns-clause-ok
returns-clause-ok c =
    let xs = c.args.near.now.items in
    let at = subst (λ (k : Key). IsPlace k xs c.place-at.result) c.key_of-key.ensures c.place-at.ensures in
    let is = subst (λ (k : Key). IsKeyAt k xs c.place-at.result c.has_at.result) c.key_of-key.ensures c.has_at.ensures in
    c.in_ok-insert.ensures.items ∙ sym (entered c.args.message xs c.place-at.result at.within at.before at.behind (λ d h. is.there d h ∙ c.if-has_at.false))
