use Rattle.pcache_table.proofs.Words.{refl, sym, ◌∙◌, ap, nat_cmp}
use Rattle.std.specs.FinMap as map
use Rattle.pcache_table.proofs.TableMaps.{on_some_lent}
use Rattle.pcache_table.proofs.HashMaps.{found, put}
use Rattle.pcache_table.proofs.hashtable.hashed_table.HashedTable.get_mut.Goals as goal

pub returns : goal.returns
returns g c =
    let es = c.self.inside.entries.entries in (
      (
        refl,
        λ w. on_some_lent c.get_mut.result (λ x. x.now) _ c.get_mut.ensures.value (λ some.
            put es (c.get_mut.follows.lender w).entries c.args.number w (((c.get_mut.follows.holds w).3 some).0) ∙ ap (λ m. map.insert m c.args.number w) c.self.view_is),
        ap (λ (n : _). map.from_entries {R = nat_cmp} n.entries) c.get_mut.follows.holds-at-none ∙ c.self.view_is,
      ),
      record {
        writes_back = tt;
        value = c.get_mut.ensures.value ∙ sym (found es c.args.number) ∙ ap (λ m. map.get m c.args.number) c.self.view_is;
      },
    )
