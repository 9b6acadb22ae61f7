-- `reader::sizes::named_real` meets its contract. Assumes nothing.
use Rattle.std.proofs.Common.{ap, sym, subst, ◌∙◌, refl, Ok}
use Rattle.std.proofs.lemmas.Result.{err_from_is_err_and}
use Rattle.rules.specs.Program.Text.{ascii}
use Rattle.rules.specs.Exchange.Tokens.{token_bytes}
use Rattle.rules.specs.Exchange.Script.{of_real}
use Rattle.reader.specs.Flow.{StandsAt, followed_on}
use Rattle.reader.proofs.Laws.Flow.{stands-skip}
use Rattle.reader.proofs.sizes.named_real.Goals as goal

pub returns-in_err-named : goal.returns-in_err-named
returns-in_err-named c =
    let p = err_from_is_err_and c.from_residual.result c.from_residual.ensures.1 in
    rw (p.1, p.2)
    (ap (λ f. followed_on c.args.text.now f (token_bytes of_real)) (sym c.in_err-named.was ∙ c.pass_name.ensures))

pub follow-requires : goal.follow-requires
follow-requires c =
    let s = subst (StandsAt c.args.text.now) (sym c.pass_name.ensures ∙ c.in_ok-named.was)
    (stands-skip c.args.text.now (Ok c.args.at) _ c.requires) in
    (s.inside _ refl, s.starts _ refl)

pub returns : goal.returns
unfolding of_real ascii
returns c =
    c.follow.ensures
    ∙ ap (λ f. followed_on c.args.text.now f (token_bytes of_real)) (sym c.in_ok-named.was ∙ c.pass_name.ensures)
