use Rattle.std.specs.Prelude.{unwrap_or}
use Rattle.pcache_http.specs.Age.{age_value, number_in}
use Rattle.pcache_http.specs.Vary.{members_of}
use Rattle.pcache_http.proofs.Words.{sym, ap, ◌∙◌, lines_of}
use Rattle.pcache_http.proofs.age.age_value.Goals as goal

pub returns-in_default : goal.returns-in_default
unfolding age_value
returns-in_default c =
    let are = c.of.ensures ∙ ap (λ vs. members_of (lines_of vs)) c.get_all.ensures.value in
    ap (λ ms. unwrap_or (number_in ms) 0) (sym c.in_default.ensures.steps.0 ∙ are)

pub returns : goal.returns
unfolding age_value
returns c =
    let are = c.of.ensures ∙ ap (λ vs. members_of (lines_of vs)) c.get_all.ensures.value in
    c.unwrap_or.ensures
    ∙ ap (λ n. unwrap_or n 0) c.delta_seconds.ensures
    ∙ ap (λ ms. unwrap_or (number_in ms) 0) (sym c.in-Some.ensures.steps ∙ are)
