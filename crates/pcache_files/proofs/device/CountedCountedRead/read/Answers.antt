use Rattle.pcache_files.proofs.Words.{◌∙◌, ◌+◌, ◌%◌, ◌^◌, ap, arith, refl, ℕ, Ok}
use Rattle.pcache_files.proofs.Devices.{counts, gave-up, gave-up-trying, lacked, keeps-read}
use Rattle.pcache_files.proofs.device.CountedCountedRead.read.Goals as goal

pub returns-in-Ok-clause-bytes : goal.returns-in-Ok-clause-bytes
returns-in-Ok-clause-bytes g c =
    keeps-read {E = ℕ} (g.T.TriedRead.remaining c.args.self.now.device) (g.T.TriedRead.remaining c.tries.self.device) (g.T.TriedRead.remaining c.try_read.new.self) (Ok c.in-Ok.count) c.try_read.new.buf c.tries.invariant.kept c.in-Ok.ensures.bytes

pub returns-then-not-is_interrupted-clause-cause : goal.returns-then-not-is_interrupted-clause-cause
returns-then-not-is_interrupted-clause-cause g c = λ failed.
    gave-up g.T.TriedRead.read_fails c.refuse.result c.tries.tried c.args.self.now.device c.tries.self.device c.try_read.new.self c.refuse.new.self.device c.in-Err.error c.tries.invariant.tries c.in-Err.ensures.cause (c.if-not-is_interrupted.ensures.no refl) c.refuse.ensures.failed c.refuse.ensures.device failed

pub returns-then-not-is_interrupted-clause-memory : goal.returns-then-not-is_interrupted-clause-memory
returns-then-not-is_interrupted-clause-memory g c = λ failed.
    lacked g.T.TriedRead.read_fails c.refuse.result c.tries.tried c.args.self.now.device c.tries.self.device c.try_read.new.self c.refuse.new.self.device c.in-Err.error c.tries.invariant.tries c.in-Err.ensures.cause c.refuse.ensures.memory c.refuse.ensures.device failed

pub returns-then-not-is_interrupted-clause-counted : goal.returns-then-not-is_interrupted-clause-counted
returns-then-not-is_interrupted-clause-counted g c = counts ℕ c.refuse.result c.args.self.now.failures c.refuse.new.self.failures c.refuse.ensures.kinds (λ io. c.refuse.ensures.counted io ∙ ap (λ n. (n + 1) % 2 ^ 64) c.tries.invariant.count) (λ m. c.refuse.ensures.uncounted m ∙ c.tries.invariant.count)

pub returns-clause-cause : goal.returns-clause-cause
returns-clause-cause g c = λ failed.
    gave-up-trying g.T.TriedRead.read_fails c.tries.tried c.args.self.now.device c.tries.self.device c.fail.new.self.device c.tries.invariant.tries (omega (arith, c.tries.auto.tried-end, c.tries-test.false)) c.fail.ensures.device
