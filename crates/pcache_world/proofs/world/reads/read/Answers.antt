use Rattle.std.proofs.Common.{option_map}
use Rattle.pcache_request.specs.Requests.{Request}
use Rattle.pcache_store.specs.Store.{Reader}
use Rattle.pcache_world.proofs.Words.{rules, Option, Some, IsSome, subst, ◌++◌, ◌∷◌, [], ap, sym, ◌∙◌, reader_of, on_request, has_read, Meta, Ongoing, MovesStore, held_with}
use Rattle.pcache_history.specs.declared.entry.Event.TheVariants as E
use Rattle.pcache_world.proofs.MovesOf.{reads-on}
use Rattle.pcache_world.proofs.Noted.{read-moved}
use Rattle.pcache_world.proofs.world.reads.read.Goals as goal

pub returns-clause-row : goal.returns-clause-row
returns-clause-row c =
    let items = c.push_reserved.ensures.items ∙ ap (λ es. es ++ E.Read c.in-Ok.answer ∷ []) c.requires.none in
    ap (held_with c.request.inside.carried (option_map (λ p. (p.0, reader_of p.1)) c.request.inside.pair)) (c.in-Ok.ensures.reads.request ∙ read-moved c.args.store.now.state c.request.inside.cache c.in-Ok.answer c.in-Ok.ensures.reads.read)
    ∙ ap (on_request (has_read (E.Read c.in-Ok.answer ∷ []))) c.request.view_is
    ∙ ap (λ es. on_request (has_read es) c.args.request.now) (sym items)

pub returns-clause-moves : goal.returns-clause-moves
returns-clause-moves c =
    let s = c.args.store.now.state in
    let pair : Option (Meta × Reader) = option_map (λ p. (p.0, reader_of p.1)) c.request.inside.pair in
    let r : Request = c.request.inside.cache in
    let some : IsSome r.reader = search rules in
    subst (λ (x : Ongoing). MovesStore (Some x) s c.push_reserved.new.self.items (Some (held_with c.request.inside.carried pair c.read_body.new.self)) c.read_body.new.storage.state) c.request.view_is
    (reads-on c.request.inside.carried r c.read_body.new.self pair s c.read_body.new.storage.state c.in-Ok.answer c.args.events.now.items c.push_reserved.new.self.items c.requires.none c.push_reserved.ensures.items some c.in-Ok.ensures.reads.read c.in-Ok.ensures.reads.request c.read_body.ensures.same_store)
