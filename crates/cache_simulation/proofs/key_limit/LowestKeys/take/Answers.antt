use Rattle.std.specs.Ordering.{nat_cmp}
use Rattle.std.proofs.lemmas.List.Elements.{All-cons}
use Rattle.cache_simulation.proofs.Words.{◌≡◌, ◌∙◌, ◌<◌, ◌^◌, ◌∷◌, ℕ, ap, arith, length, insert_key, HasLowest, rank, ranks}
use Rattle.cache_simulation.proofs.Ranks.{popped, stays, one_more_at_most}
use Rattle.cache_simulation.proofs.key_limit.LowestKeys.take.Goals as goal

pub returns-then-len-self-clause-taken : goal.returns-then-len-self-clause-taken
returns-then-len-self-clause-taken c = λ hashes h.
    record {
      small = All-cons (λ n. n < 2 ^ 64) c.args.hash hashes c.ranges.hash.fits h.small;
      lowest = popped c.args.self.now.most (rank c.args.hash) (ranks hashes) c.args.self.now.ranks.keys c.insert.new.self.keys c.pop_last.new.self.keys c.pop_last.result h.lowest
          (c.in_ok-insert.ensures.keys ∙ ap (insert_key nat_cmp c.args.self.now.ranks.keys) c.rank.ensures)
          c.pop_last.ensures.removal c.pop_last.ensures.variant.1 (omega (arith, c.len.ensures.len, c.if-len-self.true)) (one_more_at_most (length c.args.self.now.ranks.keys) (length c.insert.new.self.keys) c.in_ok-insert.field-0 c.in_ok-insert.ensures.len);
    }

pub returns-else-len-self-clause-taken : goal.returns-else-len-self-clause-taken
returns-else-len-self-clause-taken c = λ hashes h.
    record {
      small = All-cons (λ n. n < 2 ^ 64) c.args.hash hashes c.ranges.hash.fits h.small;
      lowest = stays c.args.self.now.most (rank c.args.hash) (ranks hashes) c.args.self.now.ranks.keys c.insert.new.self.keys h.lowest
          (c.in_ok-insert.ensures.keys ∙ ap (insert_key nat_cmp c.args.self.now.ranks.keys) c.rank.ensures) (omega (arith, c.len.ensures.len, c.if-len-self.false));
    }
