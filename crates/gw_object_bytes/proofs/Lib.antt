pub mod CertificateLaws
pub mod EntityLaws
pub mod KindLaws
pub mod ObjectLaws
pub mod StateLaws
