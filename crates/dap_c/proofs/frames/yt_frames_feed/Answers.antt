use Rattle.std.proofs.Common.{rules}
use Rattle.dap_c.proofs.frames.yt_frames_feed.Goals as goal

pub returns-clause-latched : goal.returns-clause-latched
returns-clause-latched c f g was is cause closed = let again = c.feed-code.ensures.latched cause in search rules
