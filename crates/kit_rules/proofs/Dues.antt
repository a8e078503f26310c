-- When requests are due, by the least time of what is pending.
use Rattle.std.proofs.Common.{◌≡◌, ℕ, min, List, [], ◌∷◌, fold, arith, refl, ap, ◌∙◌}
use Rattle.kit_base.specs.declared.message.Message.{Message}
use Rattle.kit_rules.specs.declared.table.Request.TheVariants as request
use Rattle.kit_rules.specs.Laws.{DuesByTheLeast}

-- the least of a time and those of messages is the less of both
fold_apart : (a b : ℕ) (ms : List Message) → fold (λ (t : ℕ) (m : Message). min t m.time) (min a b) ms ≡ min a (fold (λ (t : ℕ) (m : Message). min t m.time) b ms)
fold_apart a b [] = refl
fold_apart a b (m ∷ ms) =
    let same : min (min a b) m.time ≡ min a (min b m.time) = omega arith in
    ap (λ (s : ℕ). fold (λ (t : ℕ) (m : Message). min t m.time) s ms) same ∙ fold_apart a (min b m.time) ms

pub dues_by_the_least_law : DuesByTheLeast
dues_by_the_least_law (request.Tar t) ms = refl
dues_by_the_least_law (request.Ner t) [] = refl
dues_by_the_least_law (request.Ner t) (m ∷ ms) = fold_apart t m.time ms
