-- The code's word for what the debuggee replies.
use Rattle.dap_debuggee.specs.Shown.{Reply, done, refused}
use Rattle.dap_session.specs.declared.reply.ActReply.{ActReply}
use Rattle.dap_session.specs.declared.reply.ActReply.TheVariants.{Done, Refused}

abbrev pub reply_of : ActReply → Reply
reply_of Done = done
reply_of (Refused why) = refused why
