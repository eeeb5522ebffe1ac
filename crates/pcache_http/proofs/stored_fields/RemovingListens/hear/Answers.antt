use Rattle.pcache_http.proofs.Words.{refl, sym, ap, ◌∙◌, bytes_eq, option_copied, lowercase}
use Rattle.pcache_http.proofs.Removed.{listing_lower, removed-one, removed-other}
use Rattle.pcache_http.proofs.stored_fields.RemovingListens.hear.Goals as goal

pub returns-then-not-is_called : goal.returns-then-not-is_called
returns-then-not-is_called c start said was =
    let known = ap lowercase c.name_of.ensures ∙ listing_lower c.args.self.now.listing in
    removed-other start c.args.self.now said (c.args.name.now, option_copied c.args.value)
    (ap (bytes_eq (lowercase c.args.name.now)) (sym known) ∙ sym c.is_called.ensures ∙ c.if-not-is_called.true) was

pub returns : goal.returns
returns c start said was =
    let known = ap lowercase c.name_of.ensures ∙ listing_lower c.args.self.now.listing in
    removed-one start c.args.self.now (record { headers = c.remove_listed.new.headers; listing = c.args.self.now.listing }) said (c.args.name.now, option_copied c.args.value)
    (ap (bytes_eq (lowercase c.args.name.now)) (sym known) ∙ sym c.is_called.ensures ∙ c.if-not-is_called.false) c.remove_listed.ensures refl was
